use Rattle.object_sym.proofs.Right.{getproto_is_right}
use Rattle.object_sym.proofs.laws.getproto_is_right.Goals as goal

pub returns : goal.returns
returns c = getproto_is_right
