use Rattle.gil_machine.proofs.Proper.{starts_proper}
use Rattle.gil_machine.proofs.laws.starts_are_proper.Goals as goal

pub returns : goal.returns
returns c = starts_proper
