use Rattle.block_sym.proofs.Right.{store_is_right}
use Rattle.block_sym.proofs.laws.store_is_right.Goals as goal

pub returns : goal.returns
returns c = store_is_right
