use Rattle.sym_model.proofs.Unasked.{no_own_condition}
use Rattle.sym_model.proofs.laws.nothing_asked_gives_no_condition.Goals as goal

pub returns : goal.returns
returns c = no_own_condition
