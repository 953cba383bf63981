use Rattle.object_sym.proofs.Right.{setproto_is_right}
use Rattle.object_sym.proofs.laws.setproto_is_right.Goals as goal

pub returns : goal.returns
returns c = setproto_is_right
