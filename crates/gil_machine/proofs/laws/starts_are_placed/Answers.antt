use Rattle.gil_machine.proofs.Placed.{starts_placed}
use Rattle.gil_machine.proofs.laws.starts_are_placed.Goals as goal

pub returns : goal.returns
returns c = starts_placed
