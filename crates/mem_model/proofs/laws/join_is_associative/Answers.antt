use Rattle.mem_model.proofs.Joins.{join_associates}
use Rattle.mem_model.proofs.laws.join_is_associative.Goals as goal

pub returns : goal.returns
returns c = join_associates
