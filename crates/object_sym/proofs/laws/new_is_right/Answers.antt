use Rattle.object_sym.proofs.Right.{new_is_right}
use Rattle.object_sym.proofs.laws.new_is_right.Goals as goal

pub returns : goal.returns
returns c = new_is_right
