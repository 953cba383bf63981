use Rattle.block_sym.proofs.Right.{alloc_is_right}
use Rattle.block_sym.proofs.laws.alloc_is_right.Goals as goal

pub returns : goal.returns
returns c = alloc_is_right
