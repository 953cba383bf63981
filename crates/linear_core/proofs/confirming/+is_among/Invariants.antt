use Rattle.std.proofs.Common.{length}
use Rattle.linear_core.proofs.confirming.+is_among.Given as goal

abbrev pub decreases-is_among : goal.decreases-is_among
decreases-is_among l = length l.steps.now
