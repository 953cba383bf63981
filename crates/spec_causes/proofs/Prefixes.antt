-- Where a list of atoms isn't in the fragment, no longer one is.
use Rattle.std.proofs.Common.{◌≡◌, ◌<◌, ◌≤◌, ◌^◌, List, map, [], ◌∷◌, ◌++◌, refl, sym, ap, ◌∙◌, arith}
use Rattle.std.specs.List.{list_all}
use Rattle.std.proofs.lemmas.Bool.{and_parts, or_left}
use Rattle.std.proofs.lemmas.List.{append_assoc}
use Rattle.std.proofs.lemmas.List.Folds.{list_all-append}
use Rattle.pure_terms.specs.Fragment.{has_fragment_form, has_narrow_literals, different, InFragment}
use Rattle.pure_terms.specs.Pure.{PureAtom, term_of, variables, variables_of_atoms}
use Rattle.pure_terms.proofs.Counting.{stands_in, different-among}
use Rattle.pure_terms.proofs.FragmentLaws.{number_of, numbers_of, stands-append}

variables_append : (xs ys : List PureAtom) → variables_of_atoms (xs ++ ys) ≡ variables_of_atoms xs ++ variables_of_atoms ys
variables_append [] ys = refl
variables_append (x ∷ xs) ys = ap (λ us. variables (term_of x) ++ us) (variables_append xs ys) ∙ sym (append_assoc (variables (term_of x)) (variables_of_atoms xs) (variables_of_atoms ys))

pub first_inside : (xs ys : List PureAtom) → InFragment (xs ++ ys) → InFragment xs
first_inside xs ys within =
    let fewer : different (numbers_of xs) ≤ different (numbers_of (xs ++ ys)) =
    different-among (numbers_of xs) (numbers_of (xs ++ ys))
    (λ n stands. ap (λ us. stands_in n (map number_of us)) (variables_append xs ys) ∙ stands-append n (variables_of_atoms xs) (variables_of_atoms ys) ∙ or_left (stands_in n (numbers_of xs)) (stands_in n (numbers_of ys)) stands) in
    let few : different (numbers_of (xs ++ ys)) < 2 ^ 40 = within.few_variables in
    record {
      forms = (and_parts (list_all has_fragment_form xs) (list_all has_fragment_form ys) (sym (list_all-append has_fragment_form xs ys) ∙ within.forms)).0;
      literals = (and_parts (list_all has_narrow_literals xs) (list_all has_narrow_literals ys) (sym (list_all-append has_narrow_literals xs ys) ∙ within.literals)).0;
      few_variables = omega (arith, fewer, few);
    }
