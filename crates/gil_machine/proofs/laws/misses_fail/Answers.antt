use Rattle.gil_machine.proofs.Beside.{misses_fail}
use Rattle.gil_machine.proofs.laws.misses_fail.Goals as goal

pub returns : goal.returns
returns c = misses_fail
