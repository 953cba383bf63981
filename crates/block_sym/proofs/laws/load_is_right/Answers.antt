use Rattle.block_sym.proofs.Right.{load_is_right}
use Rattle.block_sym.proofs.laws.load_is_right.Goals as goal

pub returns : goal.returns
returns c = load_is_right
