use Rattle.std.proofs.Common.{length}
use Rattle.solver_proof.proofs.sums.+common_divisor.Given as goal

abbrev pub decreases-common_divisor : goal.decreases-common_divisor
decreases-common_divisor l = length l.factors.now
