use Rattle.block_sym.proofs.Right.{free_is_right}
use Rattle.block_sym.proofs.laws.free_is_right.Goals as goal

pub returns : goal.returns
returns c = free_is_right
