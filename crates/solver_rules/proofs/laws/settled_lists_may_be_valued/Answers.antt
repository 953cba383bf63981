use Rattle.solver_rules.proofs.Settled.{settled_lists_may_be_valued}
use Rattle.solver_rules.proofs.laws.settled_lists_may_be_valued.Goals as goal

pub returns : goal.returns
returns c = settled_lists_may_be_valued
