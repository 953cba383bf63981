use Rattle.std.proofs.Common.{length}
use Rattle.operator_text.proofs.CountingLoop.{Counted}
use Rattle.operator_text.proofs.few.operator_fault.Given as goal

abbrev pub invariant-loop-form : goal.invariant-loop-form
invariant-loop-form l = Counted l.fn.cursor l.rest l.count

abbrev pub decreases-loop-form : goal.decreases-loop-form
decreases-loop-form l = length l.rest
