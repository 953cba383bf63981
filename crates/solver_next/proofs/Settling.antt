-- Lists on which no rule has anything to add have models.
use Rattle.std.proofs.Common.{◌≡◌, ℕ, List, true, Some, slice_get, refl, IsTrue, not, Option, None}
use Rattle.std.specs.Prelude.{IsSomeAnd}
use Rattle.std.proofs.lemmas.Bool.{not-true, both_ways}
use Rattle.linear_core.specs.declared.rows.Row.{Row}
use Rattle.linear_core.specs.Differences.{is_narrow_difference}
use Rattle.gil_values.specs.declared.kinds.Kind.{Kind}
use Rattle.gil_values.specs.Pure.{PureValue}
use Rattle.pure_terms.specs.declared.variables.Sort.{Sort}
use Rattle.pure_terms.specs.Pure.{PureAtom}
use Rattle.equality_core.specs.Classes.{PureClasses, given_list}
use Rattle.equality_core.specs.Equating.{HaveFragmentForms}
use Rattle.equality_core.specs.Valued.{MayAllDiffer, MeetsApart}
use Rattle.solver_rules.specs.Laws.{IsSettled}
use Rattle.solver_rules.specs.Steps.{ArePlain}
use Rattle.solver_rules.proofs.Settled.{loose_disequalities_may_be_met, models_satisfy}
use Rattle.solver_next.specs.Loose.{AreLoose}
use Rattle.solver_next.specs.Steps.{IsModel}
use Rattle.solver_next.proofs.Listing.{has_loose}

-- rows of plain atoms are decided
pub never_beyond : (rows : List Row) (i : ℕ) → ((k : ℕ) (row : Row) → slice_get rows k ≡ Some row → is_narrow_difference row ≡ true) → IsSomeAnd (slice_get rows i) (λ row. IsTrue (not (is_narrow_difference row))) → ⊥
never_beyond rows i narrow beyond = by_cases (slice_get rows i) refl beyond where
  by_cases : (o : Option Row) → slice_get rows i ≡ o → IsSomeAnd o (λ row. IsTrue (not (is_narrow_difference row))) → ⊥
  by_cases (Some row) at h = both_ways (is_narrow_difference row) (not-true _ h) (narrow i row at)
  by_cases None at h = h

pub forms_of : (vars : List Sort) (list : List PureAtom) → ArePlain vars list → HaveFragmentForms list
forms_of vars list plain i a at said = (plain i a at).form

module _ (vars : List Sort) (list : List PureAtom) (c : PureClasses) (numbers : List PureValue) (kinds : List Kind) (is : IsSettled vars list c numbers kinds) (apart : List PureAtom) (are : AreLoose c apart) where
  pub may_all_differ : MayAllDiffer vars (given_list c) kinds apart
  may_all_differ j a at =
      let (loose, there) = are.some j a at in
      loose_disequalities_may_be_met vars list c numbers kinds there.place a loose.left loose.right is there.at loose.loose

  pub is_model : (v : List PureValue) → MeetsApart vars (given_list c) numbers kinds apart v → IsModel vars list v
  is_model v meets = (models_satisfy vars list c numbers kinds apart v is (has_loose c apart are) meets, meets.moderate)
