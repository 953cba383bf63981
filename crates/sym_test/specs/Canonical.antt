-- Valuations of inputs. In canonical ones the fresh variables have the symbols 0, 1 and so on, and draws that no atom names are 0, false and the empty text.
use Rattle.std.specs.Prelude.{◌≡◌, ℕ, pos, List, [], ◌∷◌, slice_get, Bool, false, if◌then◌else◌, Some, IsTrue}
use Rattle.std.specs.List.{list_any}
use Rattle.gil_values.specs.Pure.{PureValue, integer, boolean, text, symbol}
use Rattle.pure_terms.specs.declared.variables.Sort.{Sort}
use Rattle.pure_terms.specs.Meaning.{all_true, IsProper}
use Rattle.pure_terms.specs.Naming.{names_number}
use Rattle.pure_terms.specs.Pure.{PureAtom, term_of}
use Rattle.sym_paths.specs.Steps.{AreNext}

-- The valuation of inputs: the variables that aren't fresh have the inputs in order, each of the variable's sort, and the fresh ones have
-- the symbols 0, 1 and so on.
pub record HaveValuation (vars : List Sort) (inputs v : List PureValue) : Type 0 where
  pub in_turn : AreNext inputs 0 0 vars v
  pub proper : IsProper vars v

-- what a draw is that nothing says anything of
abbrev pub blank : Sort → PureValue
blank Sort.Int = integer (pos 0)
blank Sort.Bool = boolean false
blank sort = text []

-- a fresh variable has the symbol n, and a draw keeps its value u where it is named
abbrev pub IsAt : Bool → ℕ → Sort → PureValue → PureValue → Type 0
IsAt named n Sort.Fresh u w = w ≡ symbol n
IsAt named n sort u w = w ≡ (if named then u else blank sort)

-- some atom names the variable
abbrev pub is_named : List PureAtom → ℕ → Bool
is_named atoms n = list_any (λ a. names_number n (term_of a)) atoms

-- the values of the draws, in order
abbrev pub draw_and : Sort → PureValue → List PureValue → List PureValue
draw_and Sort.Fresh w later = later
draw_and sort w later = w ∷ later

abbrev pub draws_among : List Sort → List PureValue → List PureValue
draws_among (sort ∷ sorts) (w ∷ ws) = draw_and sort w (draws_among sorts ws)
draws_among _ _ = []

-- The valuation is that of its own draws, which are blank where no atom names them, and meets the atoms.
pub record IsCanonical (vars : List Sort) (atoms : List PureAtom) (v : List PureValue) : Type 0 where
  pub own : HaveValuation vars (draws_among vars v) v
  pub meets : IsTrue (all_true v atoms)
  pub blank_where_open : (x : ℕ) (sort : Sort) → slice_get vars x ≡ Some sort → ¬ (sort ≡ Sort.Fresh) → is_named atoms x ≡ false
      → slice_get v x ≡ Some (blank sort)
