use Rattle.std.proofs.Common.{length}
use Rattle.solver_proof.proofs.sums.+total.Given as goal

abbrev pub decreases-total : goal.decreases-total
decreases-total l = length l.factors.now
