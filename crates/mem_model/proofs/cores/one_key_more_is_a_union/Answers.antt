use Rattle.mem_model.proofs.CoreLaws.{one_key_more_is_union}
use Rattle.mem_model.proofs.cores.one_key_more_is_a_union.Goals as goal

pub returns : goal.returns
returns c = one_key_more_is_union
