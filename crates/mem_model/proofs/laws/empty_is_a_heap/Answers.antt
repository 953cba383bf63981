use Rattle.mem_model.proofs.Parts.{empty_is_heap}
use Rattle.mem_model.proofs.laws.empty_is_a_heap.Goals as goal

pub returns : goal.returns
returns c = empty_is_heap
