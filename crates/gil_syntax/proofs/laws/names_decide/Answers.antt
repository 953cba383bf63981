use Rattle.gil_syntax.proofs.Names.{depends_on_its_names}
use Rattle.gil_syntax.proofs.laws.names_decide.Goals as goal

pub returns : goal.returns
returns c = depends_on_its_names
