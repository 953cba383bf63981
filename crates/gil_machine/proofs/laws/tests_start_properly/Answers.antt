use Rattle.gil_machine.proofs.Entries.{tests_start_proper}
use Rattle.gil_machine.proofs.laws.tests_start_properly.Goals as goal

pub returns : goal.returns
returns c = tests_start_proper
