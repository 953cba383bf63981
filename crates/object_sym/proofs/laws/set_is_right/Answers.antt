use Rattle.object_sym.proofs.Right.{set_is_right}
use Rattle.object_sym.proofs.laws.set_is_right.Goals as goal

pub returns : goal.returns
returns c = set_is_right
