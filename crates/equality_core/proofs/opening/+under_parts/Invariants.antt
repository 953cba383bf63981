use Rattle.std.proofs.Common.{length}
use Rattle.equality_core.proofs.opening.+under_parts.Given as goal

abbrev pub decreases-under_parts : goal.decreases-under_parts
decreases-under_parts l = length l.opened.now
