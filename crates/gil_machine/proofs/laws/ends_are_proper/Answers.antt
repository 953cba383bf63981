use Rattle.gil_machine.proofs.Proper.{ends_proper, ends_proper_as_told}
use Rattle.gil_machine.proofs.laws.ends_are_proper.Goals as goal

pub returns-clause-raw : goal.returns-clause-raw
returns-clause-raw c = ends_proper

pub returns-clause-told : goal.returns-clause-told
returns-clause-told c = ends_proper_as_told
