use Rattle.mem_model.proofs.Compatible.{join_is_heap}
use Rattle.mem_model.proofs.laws.union_is_a_heap.Goals as goal

pub returns : goal.returns
returns c = join_is_heap
