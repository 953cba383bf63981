-- The sorts of new variables have the values that declarations leave.
use Rattle.std.proofs.Common.{◌≡◌, ℕ, ◌+◌, ◌<◌, List, [], length, take, drop, get_or, false, ◌&&◌, Some, None, refl, sym, ap, ◌∙◌}
use Rattle.std.proofs.lemmas.List.{take-append-drop}
use Rattle.std.proofs.lemmas.List.Folds.{list_all_more, list_all-append}
use Rattle.gil_values.specs.Pure.{PureValue}
use Rattle.gil_syntax.specs.declared.assertions.Param.{Param}
use Rattle.assert_logic.specs.Sorts.{fits_sorts}
use Rattle.pure_terms.specs.declared.variables.Sort.{Sort}
use Rattle.sym_states.specs.Sorts.{leaves, IsNarrowed, IsSortOf}

any_is_not_fresh : ¬ (Sort.Any ≡ Sort.Fresh)
any_is_not_fresh is = cc

pub no_declaration : (x : List ℕ) → IsSortOf [] x (Some Sort.Any)
no_declaration x = ((λ w. refl), any_is_not_fresh)

module _ (ps : List Param) (x : List ℕ) (i : ℕ) (q : Param) (within : i < length ps) (is : q ≡ get_or ps i q) where
  one_more : (w : PureValue) → fits_sorts (take (i + 1) ps) x w ≡ (fits_sorts (take i ps) x w && leaves q x w)
  one_more w = list_all_more (λ r. leaves r x w) ps i q within ∙ ap (λ r. fits_sorts (take i ps) x w && leaves r x w) (sym is)

  pub narrowed_more : (before sort : Sort) → IsSortOf (take i ps) x (Some before) → IsNarrowed before q x (Some sort) → IsSortOf (take (i + 1) ps) x (Some sort)
  narrowed_more before sort so_far law = (
    (λ w. law.0 w ∙ ap (λ b. b && leaves q x w) (so_far.0 w) ∙ sym (one_more w)),
    law.1 so_far.1,
  )

  pub none_left : (before : Sort) → IsSortOf (take i ps) x (Some before) → IsNarrowed before q x None → IsSortOf ps x None
  none_left before so_far law w =
      let none : fits_sorts (take (i + 1) ps) x w ≡ false = one_more w ∙ ap (λ b. b && leaves q x w) (sym (so_far.0 w)) ∙ law w in
      ap (λ rs. fits_sorts rs x w) (sym (take-append-drop (i + 1) ps)) ∙ list_all-append (λ r. leaves r x w) (take (i + 1) ps) (drop (i + 1) ps) ∙ ap (λ b. b && fits_sorts (drop (i + 1) ps) x w) none
