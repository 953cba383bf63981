use Rattle.std.proofs.Common.{length}
use Rattle.linear_core.proofs.cycles.+leaves.Given as goal

abbrev pub decreases-leaves : goal.decreases-leaves
decreases-leaves l = length l.steps.now
