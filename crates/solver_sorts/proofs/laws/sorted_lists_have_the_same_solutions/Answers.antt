use Rattle.solver_sorts.proofs.Same.{same_solutions, sorted_over}
use Rattle.solver_sorts.proofs.laws.sorted_lists_have_the_same_solutions.Goals as goal

pub returns-clause-solutions : goal.returns-clause-solutions
returns-clause-solutions c = same_solutions

pub returns-clause-over : goal.returns-clause-over
returns-clause-over c = sorted_over
