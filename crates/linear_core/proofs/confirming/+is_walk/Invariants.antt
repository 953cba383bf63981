use Rattle.std.proofs.Common.{length}
use Rattle.linear_core.proofs.confirming.+is_walk.Given as goal

abbrev pub decreases-is_walk : goal.decreases-is_walk
decreases-is_walk l = length l.steps.now
