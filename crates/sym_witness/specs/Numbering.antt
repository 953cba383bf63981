-- Valuations with numbered symbols: those of the fresh variables follow each other from a counter on, and all others are the numbers below
-- it. Symbols are known apart alone, so that a valuation may be shown with these.
use Rattle.std.specs.Prelude.{◌≡◌, ◌⊎◌, ℕ, zero, suc, ◌<◌, List, [], ◌∷◌, ◌++◌, map, length, ◌==◌, if◌then◌else◌, IsTrue, Contains, ⊤}
use Rattle.std.specs.List.{list_all}
use Rattle.gil_values.specs.Pure.{PureValue, symbol}
use Rattle.gil_values.specs.Symbols.{symbols_of_all, OccursAmong}
use Rattle.pure_terms.specs.declared.variables.Sort.{Sort}
use Rattle.pure_terms.specs.Deciding.{has_moderate_numbers}
use Rattle.pure_terms.specs.Meaning.{Satisfies}
use Rattle.pure_terms.specs.Pure.{PureAtom}
use Rattle.pure_terms.specs.Renaming.{renamed, IsOneToOneOn}

-- the symbols of the fresh variables, in order
abbrev pub fresh_symbol : Sort → PureValue → List ℕ
fresh_symbol Sort.Fresh (symbol n) = n ∷ []
fresh_symbol sort w = []

abbrev pub fresh_symbols : List Sort → List PureValue → List ℕ
fresh_symbols (sort ∷ sorts) (w ∷ ws) = fresh_symbol sort w ++ fresh_symbols sorts ws
fresh_symbols _ _ = []

-- so many numbers from n on
abbrev pub numbers_from : ℕ → ℕ → List ℕ
numbers_from n zero = []
numbers_from n (suc k) = n ∷ numbers_from (suc n) k

-- The valuation w is v with other names for its symbols. The fresh variables have the counter and the numbers after it, in their order;
-- each other symbol is below the counter, and each number below it is a symbol. So w meets what v meets, with the same numbers.
pub record IsNumbered (vars : List Sort) (counter : ℕ) (v w : List PureValue) : Type 0 where
  pub names : ℕ → ℕ
  pub one_to_one : IsOneToOneOn (symbols_of_all v) names
  pub same_but_for_names : w ≡ map (renamed names) v
  pub fresh_follow : fresh_symbols vars w ≡ numbers_from counter (length (fresh_symbols vars w))
  pub others_below : (n : ℕ) → OccursAmong n w → ¬ Contains (fresh_symbols vars w) n → n < counter
  pub each_below : (n : ℕ) → n < counter → OccursAmong n w × ¬ Contains (fresh_symbols vars w) n
  pub meets : (atoms : List PureAtom) → Satisfies vars v atoms → Satisfies vars w atoms
  pub moderate : IsTrue (list_all has_moderate_numbers v) → IsTrue (list_all has_moderate_numbers w)

-- ---- how the names are chosen

-- the first place of a number in a list, or the length of the list
abbrev pub place_in : List ℕ → ℕ → ℕ
place_in [] n = 0
place_in (m ∷ ms) n = if m == n then 0 else suc (place_in ms n)

abbrev pub AreDifferent : List ℕ → Type 0
AreDifferent [] = ⊤
AreDifferent (n ∷ ns) = (¬ Contains ns n) × AreDifferent ns

-- the symbols that aren't among the fresh ones, each once
pub record AreOthers (symbols fresh free : List ℕ) : Type 0 where
  pub different : AreDifferent free
  pub apart : (n : ℕ) → Contains free n → ¬ Contains fresh n
  pub among : (n : ℕ) → Contains free n → Contains symbols n
  pub all : (n : ℕ) → Contains symbols n → Contains free n ⊎ Contains fresh n
