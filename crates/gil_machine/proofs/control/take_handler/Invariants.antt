use Rattle.std.proofs.Common.{List, length, reverse}
use Rattle.gil_syntax.specs.Pure.{PureParts}
use Rattle.gil_machine.specs.Standing.{FramesStand}
use Rattle.gil_machine.specs.State.{Frame}
use Rattle.gil_machine.proofs.Standings.{SameHandling}
use Rattle.gil_machine.proofs.control.take_handler.Given as goal

abbrev pub invariant-loop-caller : goal.invariant-loop-caller
invariant-loop-caller l = (p : PureParts) (frames : List Frame) → FramesStand p (reverse l.fn.callers.items) frames → SameHandling p (reverse l.callers.items) frames

abbrev pub decreases-loop-caller : goal.decreases-loop-caller
decreases-loop-caller l = length l.callers.items
