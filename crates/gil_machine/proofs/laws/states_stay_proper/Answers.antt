use Rattle.gil_machine.proofs.Proper.{stays_proper}
use Rattle.gil_machine.proofs.laws.states_stay_proper.Goals as goal

pub returns : goal.returns
returns c = stays_proper
