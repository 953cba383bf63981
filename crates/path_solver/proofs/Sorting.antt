-- Lists with the sorts that they say.
use Rattle.std.proofs.Common.{◌≡◌, List, sym, subst}
use Rattle.gil_values.specs.Pure.{PureValue}
use Rattle.pure_terms.specs.declared.variables.Sort.{Sort}
use Rattle.pure_terms.specs.Meaning.{AreOver, Satisfies, IsUnsatisfiable}
use Rattle.pure_terms.specs.Pure.{PureAtom}
use Rattle.solver_proof.specs.Closing.{Closes}
use Rattle.solver_proof.specs.Pure.{PureProof}
use Rattle.solver_proof.specs.Refuting.{ClosedListsHaveNoSolution}
use Rattle.solver_sorts.specs.Laws.{SortedListsHaveTheSameSolutions}
use Rattle.solver_sorts.specs.Sorting.{IsSortedTable, sorted_atoms}
use Rattle.solver_sorts.proofs.Same.{sorted_over}

module _ (vars sorted : List Sort) (atoms there : List PureAtom) (over : AreOver vars atoms) (table : IsSortedTable vars atoms sorted) (are : there ≡ sorted_atoms sorted atoms) where
  pub over_there : AreOver sorted there
  over_there = subst (AreOver sorted) (sym are) (sorted_over vars sorted atoms over table)

  pub met_before : SortedListsHaveTheSameSolutions → (v : List PureValue) → Satisfies sorted v there → Satisfies vars v atoms
  met_before law v met = (law vars sorted atoms over table v).1 (subst (Satisfies sorted v) are met)

  pub unmet_before : SortedListsHaveTheSameSolutions → ClosedListsHaveNoSolution → (p : PureProof) → Closes sorted there p → IsUnsatisfiable vars atoms
  unmet_before law closed p closes v met = closed sorted there p over_there closes v (subst (Satisfies sorted v) (sym are) ((law vars sorted atoms over table v).0 met))
