use Rattle.std.proofs.Common.{length}
use Rattle.linear_core.proofs.confirming.+are_above.Given as goal

abbrev pub decreases-are_above : goal.decreases-are_above
decreases-are_above l = length l.steps.now
