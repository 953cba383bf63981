use Rattle.gil_machine.proofs.Runs.{depends_on_drawn_inputs}
use Rattle.gil_machine.proofs.laws.drawn_inputs_decide.Goals as goal

pub returns : goal.returns
returns c = depends_on_drawn_inputs
