use Rattle.object_sym.proofs.Right.{has_is_right}
use Rattle.object_sym.proofs.laws.has_is_right.Goals as goal

pub returns : goal.returns
returns c = has_is_right
