use Rattle.gil_syntax.proofs.Faults.{names_one_fault}
use Rattle.gil_syntax.proofs.laws.one_fault_is_named.Goals as goal

pub returns : goal.returns
returns c = names_one_fault
