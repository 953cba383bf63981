use Rattle.gil_syntax.proofs.Faults.{valid_or_named}
use Rattle.gil_syntax.proofs.laws.valid_or_named.Goals as goal

pub returns : goal.returns
returns c = valid_or_named
