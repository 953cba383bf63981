use Rattle.record_sym.proofs.Right.{lookup_is_right}
use Rattle.record_sym.proofs.laws.lookup_is_right.Goals as goal

pub returns : goal.returns
returns c = lookup_is_right
