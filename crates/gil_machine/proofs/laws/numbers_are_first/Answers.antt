use Rattle.gil_machine.proofs.HeldRuns.{numbers_are_first}
use Rattle.gil_machine.proofs.laws.numbers_are_first.Goals as goal

pub returns : goal.returns
returns c = numbers_are_first
