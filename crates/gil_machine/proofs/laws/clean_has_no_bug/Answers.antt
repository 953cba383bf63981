use Rattle.gil_machine.proofs.Entries.{clean_has_no_bug}
use Rattle.gil_machine.proofs.laws.clean_has_no_bug.Goals as goal

pub returns : goal.returns
returns c = clean_has_no_bug
