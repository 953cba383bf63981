use Rattle.solver_rules.proofs.Settled.{combinations_close}
use Rattle.solver_rules.proofs.laws.combinations_close.Goals as goal

pub returns : goal.returns
returns c = combinations_close
