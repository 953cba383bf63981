use Rattle.std.proofs.Common.{length}
use Rattle.solver_proof.proofs.sums.+cancel.Given as goal

abbrev pub decreases-cancel : goal.decreases-cancel
decreases-cancel l = length l.some.now
