use Rattle.mem_model.proofs.Joins.{join_commutes}
use Rattle.mem_model.proofs.laws.join_is_commutative.Goals as goal

pub returns : goal.returns
returns c = join_commutes
