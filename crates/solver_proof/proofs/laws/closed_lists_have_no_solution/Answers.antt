use Rattle.solver_proof.proofs.Sound.{closed_lists_have_no_solution}
use Rattle.solver_proof.proofs.laws.closed_lists_have_no_solution.Goals as goal

pub returns : goal.returns
returns c = closed_lists_have_no_solution
