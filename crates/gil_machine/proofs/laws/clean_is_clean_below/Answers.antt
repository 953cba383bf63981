use Rattle.gil_machine.proofs.Entries.{clean_is_clean_below}
use Rattle.gil_machine.proofs.laws.clean_is_clean_below.Goals as goal

pub returns : goal.returns
returns c = clean_is_clean_below
