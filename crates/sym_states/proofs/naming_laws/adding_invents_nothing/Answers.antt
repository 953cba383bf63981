use Rattle.sym_states.proofs.Inventing.{adding_invents_nothing}
use Rattle.sym_states.proofs.naming_laws.adding_invents_nothing.Goals as goal

pub returns : goal.returns
returns c = adding_invents_nothing
