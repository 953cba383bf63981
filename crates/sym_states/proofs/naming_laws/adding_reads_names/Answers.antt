use Rattle.sym_states.proofs.AddedNames.{adding_reads_names}
use Rattle.sym_states.proofs.naming_laws.adding_reads_names.Goals as goal

pub returns : goal.returns
returns c = adding_reads_names
