use Rattle.mem_model.proofs.Compatible.{compatible_associates}
use Rattle.mem_model.proofs.laws.compatible_in_any_grouping.Goals as goal

pub returns : goal.returns
returns c = compatible_associates
