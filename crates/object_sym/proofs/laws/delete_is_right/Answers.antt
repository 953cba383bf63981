use Rattle.object_sym.proofs.Right.{delete_is_right}
use Rattle.object_sym.proofs.laws.delete_is_right.Goals as goal

pub returns : goal.returns
returns c = delete_is_right
