-- A valuation whose symbols are numbered is canonical: fresh variables have the counter and the numbers after it in turn, and the symbols of
-- every other variable are below the counter of its turn.
use Rattle.std.proofs.Common.{◌≡◌, ◌⊎◌, ⊎_elim, inl, inr, ℕ, zero, suc, ◌<◌, List, [], ◌∷◌, ◌++◌, length, slice_get, IsTrue, Some, refl, sym, ap, subst, ◌∙◌, arith, true≢false}
use Rattle.std.specs.List.{Contains}
use Rattle.std.proofs.lemmas.List.Elements.{Contains-append_left, Contains-append_right, Contains-append_cases}
use Rattle.gil_values.specs.Pure.{PureValue, integer, boolean, text, symbol, kind, procedure, list}
use Rattle.gil_values.specs.Symbols.{symbols, symbols_of_all, OccursAmong, AreBelow}
use Rattle.gil_values.proofs.OperatorSymbols.{none_contained}
use Rattle.pure_terms.specs.declared.variables.Sort.{Sort}
use Rattle.pure_terms.specs.Kinds.{has_sort}
use Rattle.pure_terms.specs.Meaning.{IsProper}
use Rattle.sym_witness.specs.Numbering.{fresh_symbol, fresh_symbols, numbers_from}
use Rattle.checked_paths.specs.Exactness.{AreNewValues}

cons_cases : (y : ℕ) (ys : List ℕ) (n : ℕ) → Contains (y ∷ ys) n → (y ≡ n) ⊎ Contains ys n
cons_cases y ys n (zero, within, is) = inl is
cons_cases y ys n (suc k, within, is) = inr (k, omega (arith, within), is)

contains_tail : (y : ℕ) (ys : List ℕ) (n : ℕ) → Contains ys n → Contains (y ∷ ys) n
contains_tail y ys n (k, within, is) = (suc k, omega (arith, within), is)

tail_proper : (sort : Sort) (sorts : List Sort) (u : PureValue) (us : List PureValue) → IsProper (sort ∷ sorts) (u ∷ us) → IsProper sorts us
tail_proper sort sorts u us proper = record {
  one_each = let both : suc (length us) ≡ suc (length sorts) = proper.one_each in omega (arith, both);
  sorts = λ x s w in_table at. proper.sorts (suc x) s w in_table at;
  fresh = λ x y n w in_table at less there. proper.fresh (suc x) (suc y) n w in_table at (omega (arith, less)) there;
}

-- ---- the symbols of fresh variables

abbrev IsOfFresh : List Sort → List PureValue → ℕ → Type 0
IsOfFresh sorts ws n = (x : ℕ) × ((slice_get sorts x ≡ Some Sort.Fresh) × (slice_get ws x ≡ Some (symbol n)))

later : (sort : Sort) (w : PureValue) (sorts : List Sort) (ws : List PureValue) (n : ℕ) → IsOfFresh sorts ws n → IsOfFresh (sort ∷ sorts) (w ∷ ws) n
later sort w sorts ws n (x, (in_table, at)) = (suc x, (in_table, at))

of_one : (sort : Sort) (w : PureValue) (sorts : List Sort) (ws : List PureValue) (n : ℕ) → Contains (fresh_symbol sort w) n → IsOfFresh (sort ∷ sorts) (w ∷ ws) n
of_one Sort.Fresh (symbol m) sorts ws n has = ⊎_elim (λ same. (0, (refl, ap (λ k. Some (symbol k)) same))) (λ none. absurd (none_contained n none)) (cons_cases m [] n has)
of_one Sort.Fresh (integer m) sorts ws n has = absurd (none_contained n has)
of_one Sort.Fresh (boolean b) sorts ws n has = absurd (none_contained n has)
of_one Sort.Fresh (text cs) sorts ws n has = absurd (none_contained n has)
of_one Sort.Fresh (kind k) sorts ws n has = absurd (none_contained n has)
of_one Sort.Fresh (procedure name) sorts ws n has = absurd (none_contained n has)
of_one Sort.Fresh (list vs) sorts ws n has = absurd (none_contained n has)
of_one Sort.Int w sorts ws n has = absurd (none_contained n has)
of_one Sort.Bool w sorts ws n has = absurd (none_contained n has)
of_one Sort.Str w sorts ws n has = absurd (none_contained n has)
of_one Sort.Sym w sorts ws n has = absurd (none_contained n has)
of_one Sort.List w sorts ws n has = absurd (none_contained n has)
of_one Sort.Any w sorts ws n has = absurd (none_contained n has)

of_fresh : (sorts : List Sort) (ws : List PureValue) (n : ℕ) → Contains (fresh_symbols sorts ws) n → IsOfFresh sorts ws n
of_fresh [] ws n has = absurd (none_contained n has)
of_fresh (sort ∷ sorts) [] n has = absurd (none_contained n has)
of_fresh (sort ∷ sorts) (w ∷ ws) n has =
    ⊎_elim (of_one sort w sorts ws n) (λ more. later sort w sorts ws n (of_fresh sorts ws n more)) (Contains-append_cases (fresh_symbol sort w) (fresh_symbols sorts ws) n has)

-- ---- one variable after another

-- how the symbols of the variables are numbered from the counter on
record AreNumbered (counter : ℕ) (sorts : List Sort) (ws : List PureValue) : Type 0 where
  pub proper : IsProper sorts ws
  pub follow : (k : ℕ) × (fresh_symbols sorts ws ≡ numbers_from counter k)
  pub below : (n : ℕ) → OccursAmong n ws → ¬ Contains (fresh_symbols sorts ws) n → n < counter

one_of_numbers : (counter k m : ℕ) (rest : List ℕ) → m ∷ rest ≡ numbers_from counter k → (m ≡ counter) × ((j : ℕ) × (rest ≡ numbers_from (suc counter) j))
one_of_numbers counter zero m rest is = absurd (cons_no m rest is) where
  cons_no : (m : ℕ) (rest : List ℕ) → m ∷ rest ≡ [] → ⊥
  cons_no m rest none = let same : suc (length rest) ≡ 0 = ap length none in omega (arith, same)
one_of_numbers counter (suc k) m rest is = (ap first is, (k, ap others is)) where
  first : List ℕ → ℕ
  first [] = m
  first (n ∷ ns) = n

  others : List ℕ → List ℕ
  others [] = rest
  others (n ∷ ns) = ns

-- the symbol of a first variable that is fresh
fresh_symbol_of : (w : PureValue) → IsTrue (has_sort Sort.Fresh w) → (m : ℕ) × (w ≡ symbol m)
fresh_symbol_of (symbol m) is = (m, refl)
fresh_symbol_of (integer n) is = absurd (true≢false (sym is))
fresh_symbol_of (boolean b) is = absurd (true≢false (sym is))
fresh_symbol_of (text cs) is = absurd (true≢false (sym is))
fresh_symbol_of (kind j) is = absurd (true≢false (sym is))
fresh_symbol_of (procedure name) is = absurd (true≢false (sym is))
fresh_symbol_of (list ws) is = absurd (true≢false (sym is))

module _ (counter : ℕ) (sorts : List Sort) (ws : List PureValue) where
  -- past a fresh variable
  past_fresh : (w : PureValue) → AreNumbered counter (Sort.Fresh ∷ sorts) (w ∷ ws) → (w ≡ symbol counter) × AreNumbered (suc counter) sorts ws
  past_fresh w are = by (fresh_symbol_of w (are.proper.sorts 0 Sort.Fresh w refl refl))
    where
      by : (m : ℕ) × (w ≡ symbol m) → (w ≡ symbol counter) × AreNumbered (suc counter) sorts ws
      by (m, is) =
          let (k, follow) = are.follow in
          let (first, (j, rest)) = one_of_numbers counter k m (fresh_symbols sorts ws) (ap (λ u. fresh_symbol Sort.Fresh u ++ fresh_symbols sorts ws) (sym is) ∙ follow) in (
            is ∙ ap symbol first,
            record {
              proper = tail_proper Sort.Fresh sorts w ws are.proper;
              follow = (j, rest);
              below = λ n occurs other.
                  ⊎_elim (λ (same : m ≡ n). omega (arith, same, first))
                  (λ (no : ¬ (m ≡ n)).
                  let less : n < counter = are.below n (Contains-append_right (symbols w) (symbols_of_all ws) n occurs)
                  (λ has. ⊎_elim no other (cons_cases m (fresh_symbols sorts ws) n (subst (λ u. Contains (fresh_symbol Sort.Fresh u ++ fresh_symbols sorts ws) n) is has))) in
                  omega (arith, less))
                  (same_or_not m n);
            },
          )
        where
          same_or_not : (a b : ℕ) → (a ≡ b) ⊎ (¬ (a ≡ b))
          same_or_not zero zero = inl refl
          same_or_not zero (suc b) = inr (λ is. omega (arith, is))
          same_or_not (suc a) zero = inr (λ is. omega (arith, is))
          same_or_not (suc a) (suc b) = ⊎_elim (λ same. inl (ap suc same)) (λ no. inr (λ is. no (omega (arith, is)))) (same_or_not a b)

  -- past another variable
  past_other : (sort : Sort) (w : PureValue) → ((u : PureValue) → fresh_symbol sort u ≡ []) → AreNumbered counter (sort ∷ sorts) (w ∷ ws) → AreBelow counter (w ∷ []) × AreNumbered counter sorts ws
  past_other sort w none are =
      let none_first : fresh_symbols (sort ∷ sorts) (w ∷ ws) ≡ fresh_symbols sorts ws = ap (λ ns. ns ++ fresh_symbols sorts ws) (none w) in (
        (λ n occurs.
            are.below n
            (⊎_elim (λ here. Contains-append_left (symbols w) (symbols_of_all ws) n here) (λ no. absurd (none_contained n no)) (Contains-append_cases (symbols w) [] n occurs))
            (λ has.
            let (x, (in_table, at)) = of_fresh sorts ws n (subst (λ ns. Contains ns n) none_first has) in
            are.proper.fresh (suc x) 0 n w in_table at (omega arith) refl
            (⊎_elim (λ here. here) (λ no. absurd (none_contained n no)) (Contains-append_cases (symbols w) [] n occurs)))),
        record {
          proper = tail_proper sort sorts w ws are.proper;
          follow = let (k, is) = are.follow in (k, sym none_first ∙ is);
          below = λ n occurs other. are.below n (Contains-append_right (symbols w) (symbols_of_all ws) n occurs) (λ has. other (subst (λ ns. Contains ns n) none_first has));
        },
      )

in_turn : (counter : ℕ) (sorts : List Sort) (ws : List PureValue) → AreNumbered counter sorts ws → AreNewValues counter sorts ws
in_turn counter [] [] are = tt
in_turn counter [] (w ∷ ws) are = let no : suc (length ws) ≡ 0 = are.proper.one_each in absurd (omega (arith, no))
in_turn counter (sort ∷ sorts) [] are = let no : 0 ≡ suc (length sorts) = are.proper.one_each in absurd (omega (arith, no))
in_turn counter (Sort.Fresh ∷ sorts) (w ∷ ws) are = let (first, rest) = past_fresh counter sorts ws w are in (first, in_turn (suc counter) sorts ws rest)
in_turn counter (Sort.Int ∷ sorts) (w ∷ ws) are = let (first, rest) = past_other counter sorts ws Sort.Int w (λ u. refl) are in (first, in_turn counter sorts ws rest)
in_turn counter (Sort.Bool ∷ sorts) (w ∷ ws) are = let (first, rest) = past_other counter sorts ws Sort.Bool w (λ u. refl) are in (first, in_turn counter sorts ws rest)
in_turn counter (Sort.Str ∷ sorts) (w ∷ ws) are = let (first, rest) = past_other counter sorts ws Sort.Str w (λ u. refl) are in (first, in_turn counter sorts ws rest)
in_turn counter (Sort.Sym ∷ sorts) (w ∷ ws) are = let (first, rest) = past_other counter sorts ws Sort.Sym w (λ u. refl) are in (first, in_turn counter sorts ws rest)
in_turn counter (Sort.List ∷ sorts) (w ∷ ws) are = let (first, rest) = past_other counter sorts ws Sort.List w (λ u. refl) are in (first, in_turn counter sorts ws rest)
in_turn counter (Sort.Any ∷ sorts) (w ∷ ws) are = let (first, rest) = past_other counter sorts ws Sort.Any w (λ u. refl) are in (first, in_turn counter sorts ws rest)

pub numbered_in_turn : (counter : ℕ) (sorts : List Sort) (ws : List PureValue) → IsProper sorts ws → fresh_symbols sorts ws ≡ numbers_from counter (length (fresh_symbols sorts ws))
    → ((n : ℕ) → OccursAmong n ws → ¬ Contains (fresh_symbols sorts ws) n → n < counter) → AreNewValues counter sorts ws
numbered_in_turn counter sorts ws proper follow below = in_turn counter sorts ws (record { proper = proper; follow = (length (fresh_symbols sorts ws), follow); below = below })
