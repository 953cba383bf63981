use Rattle.gil_machine.proofs.Entries.{bugs_stay}
use Rattle.gil_machine.proofs.laws.bugs_stay.Goals as goal

pub returns : goal.returns
returns c = bugs_stay
