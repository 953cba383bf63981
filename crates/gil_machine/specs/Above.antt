-- Calls on a machine with more callers below: what they do there.
use Rattle.std.specs.Prelude.{List, ◌++◌}
use Rattle.gil_machine.specs.State.{Frame, State, Ending, returned, threw, failed, vanished, no_input, bad_input, cut, Step, goes_on, ends, End, end_at}
use Rattle.gil_machine.specs.Step.{leave, handling, throw_to}

-- the state with further frames below its own
abbrev pub above : List Frame → State → State
above frames s = record s { callers = s.callers ++ frames }

-- the state with the heap, the counter and the draws of an end
abbrev pub at_end : End → State → State
at_end e s = record s { heap = e.heap; counter = e.counter; draws = e.draws }

-- where its last frame returned or threw, the frames below go on with the value; every other end is one
abbrev pub ending_above : List Frame → Ending → State → Step
ending_above frames (returned v) s = leave frames v s
ending_above frames (threw v here) s = throw_to (handling frames) v here s
ending_above frames (failed v here) s = ends (end_at s (failed v here))
ending_above frames vanished s = ends (end_at s vanished)
ending_above frames (no_input k) s = ends (end_at s (no_input k))
ending_above frames (bad_input k) s = ends (end_at s (bad_input k))
ending_above frames cut s = ends (end_at s cut)

-- what a step from the state s leads to there
abbrev pub step_above : List Frame → State → Step → Step
step_above frames s (goes_on t) = goes_on (above frames t)
step_above frames s (ends e) = ending_above frames e.ending (at_end e s)
