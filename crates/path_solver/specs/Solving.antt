-- What a solver answers.
use Rattle.std.specs.Prelude.{List}
use Rattle.gil_values.specs.Pure.{PureValue}
use Rattle.gil_values.specs.View.{values_view}
use Rattle.pure_terms.specs.declared.deciders.Reason.{Reason}
use Rattle.pure_terms.specs.declared.variables.Sort.{Sort}
use Rattle.pure_terms.specs.Deciding.{PureDecision, sat, unsat, unknown, IsRight}
use Rattle.pure_terms.specs.Fragment.{InFragment}
use Rattle.pure_terms.specs.Pure.{PureAtom}
use Rattle.solver_proof.specs.Closing.{Closes}
use Rattle.solver_proof.specs.Pure.{PureProof}
use Rattle.solver_proof.specs.View.{proof_view}
use Rattle.solver_sorts.specs.Sorting.{IsSortedTable, sorted_atoms}
use Rattle.path_solver.specs.declared.solutions.Solution.{Solution}

pub data PureSolution : Type 0 where
  solved_by : List PureValue → PureSolution
  refuted_by : PureProof → PureSolution
  kept_out_by : Reason → PureSolution

abbrev pub solution_view : Solution → PureSolution
solution_view (Solution.Sat v) = solved_by (values_view v)
solution_view (Solution.Unsat p) = refuted_by (proof_view p)
solution_view (Solution.Unknown reason) = kept_out_by reason

-- a decider's laws, with a proof that closes the list where no valuation satisfies it
abbrev pub IsSolved : List Sort → List PureAtom → PureSolution → Type 0
IsSolved vars atoms (solved_by v) = IsRight vars atoms (sat v)
IsSolved vars atoms (refuted_by p) = Closes vars atoms p
IsSolved vars atoms (kept_out_by reason) = IsRight vars atoms (unknown reason)

-- the list isn't in the fragment, with the sorts that it says either
pub record IsOutsideWhenSorted (vars : List Sort) (atoms : List PureAtom) : Type 0 where
  pub sorted : List Sort
  pub table : IsSortedTable vars atoms sorted
  pub outside : ¬ InFragment (sorted_atoms sorted atoms)

-- only such a list isn't decided
abbrev pub IsDecidedWhenSorted : List Sort → List PureAtom → PureDecision → Type 0
IsDecidedWhenSorted vars atoms (sat v) = Unit {0}
IsDecidedWhenSorted vars atoms unsat = Unit {0}
IsDecidedWhenSorted vars atoms (unknown reason) = IsOutsideWhenSorted vars atoms
