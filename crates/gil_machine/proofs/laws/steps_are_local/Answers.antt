use Rattle.gil_machine.proofs.Beside.{steps_are_local}
use Rattle.gil_machine.proofs.laws.steps_are_local.Goals as goal

pub returns : goal.returns
returns c = steps_are_local
