use Rattle.mem_model.proofs.Joins.{join_has_unit}
use Rattle.mem_model.proofs.laws.join_has_a_unit.Goals as goal

pub returns : goal.returns
returns c = join_has_unit
