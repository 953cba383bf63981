-- A list is in the fragment exactly where each atom by itself is, and few variables are named.
use Rattle.std.proofs.Common.{◌≡◌, ℕ, zero, suc, ◌<◌, ◌≤◌, ◌^◌, List, [], ◌∷◌, ◌++◌, map, Bool, true, ◌||◌, eqb, Some, slice_get, refl, sym, ap, ◌∙◌, arith, append-nil}
use Rattle.std.specs.List.{list_all}
use Rattle.std.proofs.lemmas.Bool.{and_parts, and_from, or_left, or_right}
use Rattle.std.proofs.lemmas.List.{map-append}
use Rattle.std.proofs.lemmas.List.Folds.{list_any-append}
use Rattle.pure_terms.specs.declared.variables.Var.{Var}
use Rattle.pure_terms.specs.Fragment.{has_fragment_form, has_narrow_literals, different, variable_count, InFragment}
use Rattle.pure_terms.specs.Laws.{AreEachInFragment, FragmentAtomByAtom}
use Rattle.pure_terms.specs.Pure.{PureAtom, term_of, variables, variables_of_atoms}
use Rattle.pure_terms.proofs.Counting.{stands_in, AreAmong, different-among}

abbrev pub number_of : Var → ℕ
number_of x = x.number

abbrev pub numbers_of : List PureAtom → List ℕ
numbers_of atoms = map number_of (variables_of_atoms atoms)

-- a test that all elements pass, and one that each does
pub passes_at : {X : Type 0} (f : X → Bool) (xs : List X) (i : ℕ) (x : X) → list_all f xs ≡ true → slice_get xs i ≡ Some x → f x ≡ true
passes_at f [] i x all is = cc
passes_at f (y ∷ ys) zero x all is = let same : y ≡ x = cc in ap f (sym same) ∙ (and_parts (f y) (list_all f ys) all).0
passes_at f (y ∷ ys) (suc i) x all is = passes_at f ys i x (and_parts (f y) (list_all f ys) all).1 is

pub all_pass : {X : Type 0} (f : X → Bool) (xs : List X) → ((i : ℕ) (x : X) → slice_get xs i ≡ Some x → f x ≡ true) → list_all f xs ≡ true
all_pass f [] each = refl
all_pass f (y ∷ ys) each = and_from (f y) (list_all f ys) (each 0 y refl) (all_pass f ys (λ i x is. each (suc i) x is))

pub stands-append : (n : ℕ) (xs ys : List Var) → stands_in n (map number_of (xs ++ ys)) ≡ (stands_in n (map number_of xs) || stands_in n (map number_of ys))
stands-append n xs ys = ap (stands_in n) (map-append number_of xs ys) ∙ list_any-append (eqb n) (map number_of xs) (map number_of ys)

-- what an atom names, the list names
pub among_list : (atoms : List PureAtom) (i : ℕ) (a : PureAtom) → slice_get atoms i ≡ Some a → AreAmong (map number_of (variables (term_of a))) (numbers_of atoms)
among_list [] i a is n stands = cc
among_list (b ∷ atoms) zero a is n stands =
    let same : b ≡ a = cc in
    stands-append n (variables (term_of b)) (variables_of_atoms atoms)
    ∙ or_left _ _ (ap (λ c. stands_in n (map number_of (variables (term_of c)))) same ∙ stands)
among_list (b ∷ atoms) (suc i) a is n stands =
    stands-append n (variables (term_of b)) (variables_of_atoms atoms)
    ∙ or_right _ _ (among_list atoms i a is n stands)

alone : (a : PureAtom) → numbers_of (a ∷ []) ≡ map number_of (variables (term_of a))
alone a = ap (map number_of) (append-nil (variables (term_of a)))

each_in : (atoms : List PureAtom) → InFragment atoms → AreEachInFragment atoms
each_in atoms within i a is =
    let fewer : different (map number_of (variables (term_of a))) ≤ different (numbers_of atoms) = different-among _ _ (among_list atoms i a is) in
    let few : different (numbers_of atoms) < 2 ^ 40 = within.few_variables in
    let same : different (numbers_of (a ∷ [])) ≡ different (map number_of (variables (term_of a))) = ap different (alone a) in
    record {
      forms = and_from _ _ (passes_at has_fragment_form atoms i a within.forms is) refl;
      literals = and_from _ _ (passes_at has_narrow_literals atoms i a within.literals is) refl;
      few_variables = omega (arith, fewer, few, same);
    }

from_each : (atoms : List PureAtom) → AreEachInFragment atoms → variable_count atoms < 2 ^ 40 → InFragment atoms
from_each atoms each few = record {
  forms = all_pass has_fragment_form atoms (λ i a is. (and_parts (has_fragment_form a) true (each i a is).forms).0);
  literals = all_pass has_narrow_literals atoms (λ i a is. (and_parts (has_narrow_literals a) true (each i a is).literals).0);
  few_variables = few;
}

pub fragment_atom_by_atom : FragmentAtomByAtom
fragment_atom_by_atom atoms = (λ within. (each_in atoms within, within.few_variables), λ both. from_each atoms both.0 both.1)
