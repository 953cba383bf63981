use Rattle.gil_machine.proofs.Placed.{stays_placed}
use Rattle.gil_machine.proofs.laws.states_stay_placed.Goals as goal

pub returns : goal.returns
returns c = stays_placed
