use Rattle.std.proofs.Common.{length}
use Rattle.gil_text.proofs.NestingLoop.{Counted}
use Rattle.gil_text.proofs.nesting.nesting_fault.Given as goal

abbrev pub invariant-loop-form : goal.invariant-loop-form
invariant-loop-form l = Counted l.fn.cursor l.rest l.count

abbrev pub decreases-loop-form : goal.decreases-loop-form
decreases-loop-form l = length l.rest
