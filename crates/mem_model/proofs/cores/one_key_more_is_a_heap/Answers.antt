use Rattle.mem_model.proofs.CoreLaws.{one_key_more_is_heap}
use Rattle.mem_model.proofs.cores.one_key_more_is_a_heap.Goals as goal

pub returns : goal.returns
returns c = one_key_more_is_heap
