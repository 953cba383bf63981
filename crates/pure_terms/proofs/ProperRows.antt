-- Small valuations that are proper, or not, and small lists.
use Rattle.std.proofs.Common.{◌≡◌, ℕ, zero, suc, ◌<◌, pos, [], ◌∷◌, true, false, ◌&&◌, Option, Some, None, slice_get, refl, sym, arith}
use Rattle.std.specs.Prelude.{IsTrue}
use Rattle.std.proofs.lemmas.Bool.{false≢true}
use Rattle.std.proofs.lemmas.List.Elements.{Contains-push}
use Rattle.gil_values.specs.Pure.{PureValue, integer, boolean, symbol, text, kind, procedure, list}
use Rattle.gil_values.specs.Symbols.{OccursIn}
use Rattle.pure_terms.specs.declared.variables.Sort.{Sort}
use Rattle.pure_terms.specs.Examples.{list_then_fresh, fresh_then_list, list_of_seven, x, number, at_most, x_is_one, x_is_none}
use Rattle.pure_terms.specs.Kinds.{has_sort}
use Rattle.pure_terms.specs.Meaning.{value, is_that_boolean, IsProper, Satisfies, IsUnsatisfiable}

pub fresh_in_lower : ¬ IsProper list_then_fresh (list_of_seven ∷ symbol 7 ∷ [])
fresh_in_lower proper = proper.fresh 1 0 7 list_of_seven refl refl (omega arith) refl (Contains-push [] 7)

sorts_fit : (i : ℕ) (s : Sort) (w : PureValue) → slice_get fresh_then_list i ≡ Some s → slice_get (symbol 7 ∷ list_of_seven ∷ []) i ≡ Some w → IsTrue (has_sort s w)
sorts_fit zero s w is has = let same : Sort.Fresh ≡ s = cc in let there : symbol 7 ≡ w = cc in λ j. has_sort (sym same j) (sym there j)
sorts_fit (suc zero) s w is has = let same : Sort.List ≡ s = cc in let there : list_of_seven ≡ w = cc in λ j. has_sort (sym same j) (sym there j)
sorts_fit (suc (suc i)) s w is has = cc

nothing_below : (i y n : ℕ) (w : PureValue) → slice_get fresh_then_list i ≡ Some Sort.Fresh → slice_get (symbol 7 ∷ list_of_seven ∷ []) i ≡ Some (symbol n) → y < i → slice_get (symbol 7 ∷ list_of_seven ∷ []) y ≡ Some w → ¬ OccursIn n w
nothing_below zero y n w is has below at occurs = absurd (omega (arith, below))
nothing_below (suc zero) y n w is has below at occurs = cc
nothing_below (suc (suc i)) y n w is has below at occurs = cc

pub fresh_in_higher : IsProper fresh_then_list (symbol 7 ∷ list_of_seven ∷ [])
fresh_in_higher = record { one_each = refl; sorts = sorts_fit; fresh = nothing_below }

pub too_few_values : ¬ IsProper fresh_then_list (symbol 7 ∷ [])
too_few_values proper = let lengths : 1 ≡ 2 = proper.one_each in absurd (omega (arith, lengths))

pub other_sort : ¬ IsProper (Sort.Int ∷ []) (boolean true ∷ [])
other_sort proper = false≢true (proper.sorts 0 Sort.Int (boolean true) refl refl)

int_sorts : (n : ℕ) (i : ℕ) (s : Sort) (w : PureValue) → slice_get (Sort.Int ∷ []) i ≡ Some s → slice_get (integer (pos n) ∷ []) i ≡ Some w → IsTrue (has_sort s w)
int_sorts n zero s w is has = let same : Sort.Int ≡ s = cc in let there : integer (pos n) ≡ w = cc in λ j. has_sort (sym same j) (sym there j)
int_sorts n (suc i) s w is has = cc

int_fresh : (m i y n : ℕ) (w : PureValue) → slice_get (Sort.Int ∷ []) i ≡ Some Sort.Fresh → slice_get (integer (pos m) ∷ []) i ≡ Some (symbol n) → y < i → slice_get (integer (pos m) ∷ []) y ≡ Some w → ¬ OccursIn n w
int_fresh m zero y n w is has below at occurs = cc
int_fresh m (suc i) y n w is has below at occurs = cc

pub one_satisfies : Satisfies (Sort.Int ∷ []) (integer (pos 1) ∷ []) x_is_one
one_satisfies = record { proper = record { one_each = refl; sorts = int_sorts 1; fresh = int_fresh 1 }; true_there = refl }

pub two_does_not : ¬ Satisfies (Sort.Int ∷ []) (integer (pos 2) ∷ []) x_is_one
two_does_not satisfies = false≢true satisfies.true_there

not_both : (o : Option PureValue) → (is_that_boolean true o && (is_that_boolean false o && true)) ≡ true → ⊥
not_both (Some (boolean true)) h = false≢true h
not_both (Some (boolean false)) h = false≢true h
not_both (Some (integer n)) h = false≢true h
not_both (Some (text cs)) h = false≢true h
not_both (Some (symbol n)) h = false≢true h
not_both (Some (kind k)) h = false≢true h
not_both (Some (procedure name)) h = false≢true h
not_both (Some (list vs)) h = false≢true h
not_both None h = false≢true h

pub nothing_satisfies : IsUnsatisfiable (Sort.Int ∷ []) x_is_none
nothing_satisfies v satisfies = not_both (value v (at_most x (number 0))) satisfies.true_there
