use Rattle.record_sym.proofs.Right.{mutate_is_right}
use Rattle.record_sym.proofs.laws.mutate_is_right.Goals as goal

pub returns : goal.returns
returns c = mutate_is_right
