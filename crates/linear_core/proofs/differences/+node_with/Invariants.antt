use Rattle.std.proofs.Common.{length}
use Rattle.linear_core.proofs.differences.+node_with.Given as goal

abbrev pub decreases-node_with : goal.decreases-node_with
decreases-node_with l = length l.coefficients.now
