use Rattle.object_sym.proofs.Right.{get_is_right}
use Rattle.object_sym.proofs.laws.get_is_right.Goals as goal

pub returns : goal.returns
returns c = get_is_right
