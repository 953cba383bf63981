-- Tame values are proper, and have moderate numbers.
use Rattle.std.proofs.Common.{◌≡◌, ℕ, zero, suc, ◌<◌, ◌≤◌, if◌then◌else◌, List, [], ◌∷◌, length, Bool, true, false, Result, Ok, Err, Some, None, Option, slice_get, refl, sym, ap, ◌∙◌, ◌+◌, ◌⊎◌, ⊎_elim, inl, inr, get_or, subst, arith}
use Rattle.std.specs.Prelude.{IfOk, Contains}
use Rattle.std.specs.List.{list_all}
use Rattle.std.proofs.lemmas.Bool.{and_parts, and_from, eqb-true, leb-true, false≢true, cases_eq}
use Rattle.std.proofs.lemmas.Option.{slice_get_within, slice_get_cases, same_Some}
use Rattle.gil_values.specs.Pure.{PureValue, integer, boolean, text, symbol, kind, procedure, list}
use Rattle.gil_values.specs.Symbols.{OccursIn}
use Rattle.pure_terms.specs.declared.variables.Sort.{Sort}
use Rattle.pure_terms.specs.Deciding.{has_moderate_numbers}
use Rattle.pure_terms.specs.Kinds.{has_sort, same_sort}
use Rattle.pure_terms.specs.Meaning.{IsProper}
use Rattle.solver_guess.specs.Tame.{is_tame, is_own_symbol, is_tame_for, AreTame}

-- what holds of each value that is the variable's own symbol, or tame
tame_or_own : (P : PureValue → Type 0) (x : ℕ) (s : Sort) (w : PureValue) → (is_own_symbol x w ≡ true → P w) → (is_tame x w ≡ true → P w) → is_tame_for x s w ≡ true → P w
tame_or_own P x s w own tame is = by_test (same_sort s Sort.Fresh) (and_parts (has_sort s w) (if same_sort s Sort.Fresh then is_own_symbol x w else is_tame x w) is).1 where
  by_test : (b : Bool) → (if b then is_own_symbol x w else is_tame x w) ≡ true → P w
  by_test true h = own h
  by_test false h = tame h

tame_sort : (x : ℕ) (s : Sort) (w : PureValue) → is_tame_for x s w ≡ true → has_sort s w ≡ true
tame_sort x s w is = (and_parts (has_sort s w) (if same_sort s Sort.Fresh then is_own_symbol x w else is_tame x w) is).0

own_moderate : (x : ℕ) (w : PureValue) → is_own_symbol x w ≡ true → has_moderate_numbers w ≡ true
own_moderate x (symbol n) is = refl
own_moderate x (integer n) is = absurd (false≢true is)
own_moderate x (list vs) is = absurd (false≢true is)
own_moderate x (boolean b) is = refl
own_moderate x (text cs) is = refl
own_moderate x (kind k) is = refl
own_moderate x (procedure name) is = refl

tame_moderate : (x : ℕ) (w : PureValue) → is_tame x w ≡ true → has_moderate_numbers w ≡ true
tame_moderate x (symbol n) is = refl
tame_moderate x (integer n) is = is
tame_moderate x (list vs) is = absurd (false≢true is)
tame_moderate x (boolean b) is = refl
tame_moderate x (text cs) is = refl
tame_moderate x (kind k) is = refl
tame_moderate x (procedure name) is = refl

-- no symbol of the value is above the variable's number
abbrev IsLow : ℕ → PureValue → Type 0
IsLow x w = (n : ℕ) → OccursIn n w → n ≤ x

one_symbol : (k n : ℕ) → Contains (k ∷ []) n → n ≡ k
one_symbol k n (zero, within, is) = sym is
one_symbol k n (suc i, within, is) = absurd (omega (arith, within))

no_symbol : (n : ℕ) → Contains [] n → ⊥
no_symbol n (i, within, is) = absurd (omega (arith, within))

own_low : (x : ℕ) (w : PureValue) → is_own_symbol x w ≡ true → IsLow x w
own_low x (symbol k) is n in_it =
    let own : k ≡ x = eqb-true k x is in
    let one : n ≡ k = one_symbol k n in_it in
    omega (arith, own, one)
own_low x (integer m) is n in_it = absurd (no_symbol n in_it)
own_low x (list vs) is n in_it = absurd (false≢true is)
own_low x (boolean b) is n in_it = absurd (no_symbol n in_it)
own_low x (text cs) is n in_it = absurd (no_symbol n in_it)
own_low x (kind k) is n in_it = absurd (no_symbol n in_it)
own_low x (procedure name) is n in_it = absurd (no_symbol n in_it)

tame_low : (x : ℕ) (w : PureValue) → is_tame x w ≡ true → IsLow x w
tame_low x (symbol k) is n in_it =
    let low : k ≤ x = leb-true k x is in
    let one : n ≡ k = one_symbol k n in_it in
    omega (arith, low, one)
tame_low x (integer m) is n in_it = absurd (no_symbol n in_it)
tame_low x (list vs) is n in_it = absurd (false≢true is)
tame_low x (boolean b) is n in_it = absurd (no_symbol n in_it)
tame_low x (text cs) is n in_it = absurd (no_symbol n in_it)
tame_low x (kind k) is n in_it = absurd (no_symbol n in_it)
tame_low x (procedure name) is n in_it = absurd (no_symbol n in_it)

fresh_own : (x n : ℕ) → is_tame_for x Sort.Fresh (symbol n) ≡ true → n ≡ x
fresh_own x n is = eqb-true n x (and_parts (has_sort Sort.Fresh (symbol n)) (is_own_symbol x (symbol n)) is).1

module _ (vars : List Sort) (v : List PureValue) (tame : AreTame vars v) where
  -- the sort of the variable that has a value
  sort_of : (y : ℕ) (w : PureValue) → slice_get v y ≡ Some w → (s : Sort) × (slice_get vars y ≡ Some s)
  sort_of y w at = by_cases (slice_get vars y) refl where
    within : y < length vars
    within = subst (λ n. y < n) tame.one_each (slice_get_within v y w at)

    by_cases : (o : Option Sort) → slice_get vars y ≡ o → (s : Sort) × (slice_get vars y ≡ Some s)
    by_cases (Some s) there = (s, there)
    by_cases None there = absurd (not_there (slice_get_cases vars y).1) where
      not_there : ((s : Sort) × (y < length vars) × (slice_get vars y ≡ Some s) × (get_or vars y s ≡ s)) ⊎ ((length vars ≤ y) × (slice_get vars y ≡ None)) → ⊥
      not_there (inl found) = cc
      not_there (inr past) = omega (arith, within, past.0)

  low : (y : ℕ) (w : PureValue) → slice_get v y ≡ Some w → IsLow y w
  low y w at =
      let of = sort_of y w at in
      tame_or_own (IsLow y) y of.0 w (own_low y w) (tame_low y w) (tame.each y of.0 w of.1 at)

  pub tame_proper : IsProper vars v
  tame_proper =
      record {
        one_each = tame.one_each;
        sorts = λ x s w of at. tame_sort x s w (tame.each x s w of at);
        fresh = λ x y n w of at below there in_it.
            let own : n ≡ x = fresh_own x n (tame.each x Sort.Fresh (symbol n) of at) in
            let least : n ≤ y = low y w there n in_it in
            omega (arith, own, least, below);
      }

  moderate_at : (y : ℕ) (w : PureValue) → slice_get v y ≡ Some w → has_moderate_numbers w ≡ true
  moderate_at y w at =
      let of = sort_of y w at in
      tame_or_own (λ u. has_moderate_numbers u ≡ true) y of.0 w (own_moderate y w) (tame_moderate y w) (tame.each y of.0 w of.1 at)

  pub tame_numbers : list_all has_moderate_numbers v ≡ true
  tame_numbers = all_from has_moderate_numbers v moderate_at where
    all_from : {X : Type 0} (p : X → Bool) (xs : List X) → ((i : ℕ) (x : X) → slice_get xs i ≡ Some x → p x ≡ true) → list_all p xs ≡ true
    all_from p [] each = refl
    all_from p (x ∷ xs) each = and_from (p x) (list_all p xs) (each 0 x refl) (all_from p xs (λ i y at. each (suc i) y at))

-- one more value
pub tame_more : (vars : List Sort) (v : List PureValue) (i : ℕ) (s : Sort) (w : PureValue) → slice_get vars i ≡ Some s → slice_get v i ≡ Some w → is_tame_for i s w ≡ true
    → ((x : ℕ) (t : Sort) (u : PureValue) → x < i → slice_get vars x ≡ Some t → slice_get v x ≡ Some u → is_tame_for x t u ≡ true)
    → (x : ℕ) (t : Sort) (u : PureValue) → x < i + 1 → slice_get vars x ≡ Some t → slice_get v x ≡ Some u → is_tame_for x t u ≡ true
tame_more vars v i s w of at here before x t u less of_x at_x = ⊎_elim last other (cases_eq x i) where
  last : x ≡ i → is_tame_for x t u ≡ true
  last e =
      let sort : s ≡ t = same_Some s t (sym of ∙ ap (slice_get vars) (sym e) ∙ of_x) in
      let value : w ≡ u = same_Some w u (sym at ∙ ap (slice_get v) (sym e) ∙ at_x) in
      (λ k. is_tame_for (e k) (sym sort k) (sym value k)) ∙ here

  other : (x ≡ i → ⊥) → is_tame_for x t u ≡ true
  other ne = before x t u (omega (arith, less, ne)) of_x at_x

-- what follows of the value in an Ok
pub ok_then : {T E : Type 0} (r : Result T E) (P Q : T → Type 0) → ((x : T) → P x → Q x) → IfOk r P → IfOk r Q
ok_then (Ok x) P Q each h = each x h
ok_then (Err e) P Q each h = h
