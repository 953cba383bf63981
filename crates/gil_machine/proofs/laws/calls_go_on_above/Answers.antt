use Rattle.gil_machine.proofs.Above.{steps_above_frames, reaches_above_frames, ends_above_frames}
use Rattle.gil_machine.proofs.laws.calls_go_on_above.Goals as goal

pub returns-clause-steps : goal.returns-clause-steps
returns-clause-steps c = steps_above_frames

pub returns-clause-states : goal.returns-clause-states
returns-clause-states c = reaches_above_frames

pub returns-clause-ends : goal.returns-clause-ends
returns-clause-ends c = ends_above_frames
