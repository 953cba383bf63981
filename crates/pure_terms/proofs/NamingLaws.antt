-- Which variables terms and atoms name, by their numbers.
use Rattle.std.proofs.Common.{◌≡◌, ◌↔◌, ℕ, zero, suc, ◌+◌, ◌<◌, ◌≤◌, List, [], ◌∷◌, map, length, Bool, true, false, ◌||◌, eqb, ltb, Option, Some, None, slice_get, refl, sym, ap, ◌∙◌, subst, add-one, arith}
use Rattle.std.specs.List.{list_all, list_any}
use Rattle.std.proofs.lemmas.Bool.{eqb-true, and_parts, and_from, false≢true}
use Rattle.std.proofs.lemmas.List.Folds.{list_all-append, list_any-append, Any-from_list_any}
use Rattle.std.proofs.lemmas.Option.{slice_get_within}
use Rattle.pure_terms.specs.declared.atoms.Atom.{Atom}
use Rattle.pure_terms.specs.declared.variables.Sort.{Sort}
use Rattle.pure_terms.specs.declared.variables.Var.{Var}
use Rattle.pure_terms.specs.Fragment.{variable_count}
use Rattle.pure_terms.specs.Naming.{is_of_sort, is_in_table, names_number, names_only_below, names_only}
use Rattle.pure_terms.specs.EqualityLaws.{same_sorts, same_sort-refl}
use Rattle.std.proofs.lemmas.List.Elements.{Contains-append_left, Contains-append_right, Contains-push}
use Rattle.gil_values.proofs.OperatorSymbols.{none_contained}
use Rattle.pure_terms.specs.Meaning.{AreVariablesOf, IsOver, AreOver}
use Rattle.pure_terms.specs.Pure.{PureTerm, from_list, PureAtom, term_of, variables, variables_of_all, variables_of_atoms}
use Rattle.pure_terms.specs.View.{atom_view, atoms_view}
use Rattle.pure_terms.proofs.Counting.{stands_in, one_if, standing_below, AreBelow, different-standing, different-bound}
use Rattle.pure_terms.proofs.FragmentLaws.{number_of, numbers_of, stands-append}
use Rattle.pure_terms.proofs.ListTests.{tests_all, tests_any}

pub list_any-map : {X Y : Type 0} (p : Y → Bool) (h : X → Y) (xs : List X) → list_any p (map h xs) ≡ list_any (λ x. p (h x)) xs
list_any-map p h [] = refl
list_any-map p h (x ∷ xs) = ap (λ b. p (h x) || b) (list_any-map p h xs)

-- the elements of a list term
pub names_list : (n : ℕ) (us : List PureTerm) → list_any (λ x. eqb n x.number) (variables_of_all (from_list us)) ≡ list_any (names_number n) us
names_list n = tests_any (names_number n) (λ ts. list_any (λ x. eqb n x.number) (variables_of_all ts)) refl (λ t ts. list_any-append (λ x. eqb n x.number) (variables t) (variables_of_all ts))

pub below_list : (n : ℕ) (us : List PureTerm) → list_all (λ x. ltb x.number n) (variables_of_all (from_list us)) ≡ list_all (names_only_below n) us
below_list n = tests_all (names_only_below n) (λ ts. list_all (λ x. ltb x.number n) (variables_of_all ts)) refl (λ t ts. list_all-append (λ x. ltb x.number n) (variables t) (variables_of_all ts))

pub over_list : (vars : List Sort) (us : List PureTerm) → list_all (is_in_table vars) (variables_of_all (from_list us)) ≡ list_all (names_only vars) us
over_list vars = tests_all (names_only vars) (λ ts. list_all (is_in_table vars) (variables_of_all ts)) refl (λ t ts. list_all-append (is_in_table vars) (variables t) (variables_of_all ts))

-- ---- tables

from_sort : (o : Option Sort) (s : Sort) → is_of_sort o s ≡ true → o ≡ Some s
from_sort (Some t) s h = ap Some (same_sorts t s h)
from_sort None s h = absurd (false≢true h)

each_in_table : (vars : List Sort) (xs : List Var) → list_all (is_in_table vars) xs ≡ true → AreVariablesOf vars xs
each_in_table vars [] all x has = absurd (none_contained x has)
each_in_table vars (y ∷ xs) all x (zero, below, is) =
    subst (λ z. slice_get vars z.number ≡ Some z.sort) is (from_sort (slice_get vars y.number) y.sort (and_parts (is_in_table vars y) (list_all (is_in_table vars) xs) all).0)
each_in_table vars (y ∷ xs) all x (suc k, below, is) = each_in_table vars xs (and_parts (is_in_table vars y) (list_all (is_in_table vars) xs) all).1 x (k, omega (arith, below), is)

in_table_each : (vars : List Sort) (xs : List Var) → AreVariablesOf vars xs → list_all (is_in_table vars) xs ≡ true
in_table_each vars [] over = refl
in_table_each vars (y ∷ xs) over =
    and_from (is_in_table vars y) (list_all (is_in_table vars) xs)
    (ap (λ o. is_of_sort o y.sort) (over y (Contains-append_left (y ∷ []) xs y (Contains-push [] y))) ∙ same_sort-refl y.sort)
    (in_table_each vars xs (λ x has. over x (Contains-append_right (y ∷ []) xs x has)))

pub names_only-over : (vars : List Sort) (t : PureTerm) → (names_only vars t ≡ true) ↔ IsOver vars t
names_only-over vars t = (each_in_table vars (variables t), in_table_each vars (variables t))

pub names_atoms : (n : ℕ) (atoms : List PureAtom) → list_any (λ a. names_number n (term_of a)) atoms ≡ stands_in n (numbers_of atoms)
names_atoms n [] = refl
names_atoms n (a ∷ atoms) =
    (λ i. sym (list_any-map (eqb n) number_of (variables (term_of a))) i || names_atoms n atoms i)
    ∙ sym (stands-append n (variables (term_of a)) (variables_of_atoms atoms))

-- what is named lies in the table
pub below_table : (vars : List Sort) (atoms : List PureAtom) → AreOver vars atoms → AreBelow (length vars) (numbers_of atoms)
below_table vars atoms over n stands =
    let (k, x, below, is, same) = Any-from_list_any (λ (y : Var). eqb n y.number) (variables_of_atoms atoms) (sym (list_any-map (eqb n) number_of (variables_of_atoms atoms)) ∙ stands) in
    let number : n ≡ x.number = eqb-true n x.number same in
    let within : x.number < length vars = slice_get_within vars x.number x.sort (over x (k, below, is)) in
    omega (arith, number, within)

pub count_bound : (vars : List Sort) (atoms : List PureAtom) → AreOver vars atoms → variable_count atoms ≤ length vars
count_bound vars atoms over = different-bound (length vars) (numbers_of atoms) (below_table vars atoms over)

pub count_standing : (vars : List Sort) (atoms : List PureAtom) → AreOver vars atoms → variable_count atoms ≡ standing_below (length vars) (numbers_of atoms)
count_standing vars atoms over = different-standing (length vars) (numbers_of atoms) (below_table vars atoms over)

one_if-true : (b : Bool) (n : ℕ) → b ≡ true → n + 1 ≡ one_if b + n
one_if-true true n e = omega arith
one_if-true false n e = cc

one_if-false : (b : Bool) (n : ℕ) → b ≡ false → n ≡ one_if b + n
one_if-false true n e = cc
one_if-false false n e = omega arith

-- one number more
pub counted : (n count : ℕ) (atoms : List PureAtom) → list_any (λ a. names_number n (term_of a)) atoms ≡ true → count ≡ standing_below n (numbers_of atoms) → count + 1 ≡ standing_below (suc n) (numbers_of atoms)
counted n count atoms named so_far =
    one_if-true (stands_in n (numbers_of atoms)) count (sym (names_atoms n atoms) ∙ named) ∙ ap (λ k. one_if (stands_in n (numbers_of atoms)) + k) so_far

pub not_counted : (n count : ℕ) (atoms : List PureAtom) → list_any (λ a. names_number n (term_of a)) atoms ≡ false → count ≡ standing_below n (numbers_of atoms) → count ≡ standing_below (suc n) (numbers_of atoms)
not_counted n count atoms named so_far =
    one_if-false (stands_in n (numbers_of atoms)) count (sym (names_atoms n atoms) ∙ named) ∙ ap (λ k. one_if (stands_in n (numbers_of atoms)) + k) so_far

-- the same of a list of atoms of the code
pub counted_more : (n count : ℕ) (atoms : List Atom) (b : Bool) → b ≡ list_any (λ a. names_number n (term_of (atom_view a))) atoms → b ≡ true → count ≡ standing_below n (numbers_of (atoms_view atoms)) → count + 1 ≡ standing_below (n + 1) (numbers_of (atoms_view atoms))
counted_more n count atoms b is named so_far =
    rw (add-one n) (counted n count (atoms_view atoms) (list_any-map (λ (a : PureAtom). names_number n (term_of a)) atom_view atoms ∙ sym is ∙ named) so_far)

pub not_counted_more : (n count : ℕ) (atoms : List Atom) (b : Bool) → b ≡ list_any (λ a. names_number n (term_of (atom_view a))) atoms → b ≡ false → count ≡ standing_below n (numbers_of (atoms_view atoms)) → count ≡ standing_below (n + 1) (numbers_of (atoms_view atoms))
not_counted_more n count atoms b is named so_far =
    rw (add-one n) (not_counted n count (atoms_view atoms) (list_any-map (λ (a : PureAtom). names_number n (term_of a)) atom_view atoms ∙ sym is ∙ named) so_far)
