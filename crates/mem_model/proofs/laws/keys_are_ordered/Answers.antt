use Rattle.mem_model.proofs.Compatible.{keys_are_ordered}
use Rattle.mem_model.proofs.laws.keys_are_ordered.Goals as goal

pub returns : goal.returns
returns c = keys_are_ordered
