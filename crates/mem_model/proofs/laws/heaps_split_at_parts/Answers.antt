use Rattle.mem_model.proofs.Joins.{heaps_split}
use Rattle.mem_model.proofs.laws.heaps_split_at_parts.Goals as goal

pub returns : goal.returns
returns c = heaps_split
