use Rattle.record_sym.proofs.Right.{dispose_is_right}
use Rattle.record_sym.proofs.laws.dispose_is_right.Goals as goal

pub returns : goal.returns
returns c = dispose_is_right
