use Rattle.mem_model.proofs.Joins.{join_holds_both}
use Rattle.mem_model.proofs.laws.join_keeps_both.Goals as goal

pub returns : goal.returns
returns c = join_holds_both
