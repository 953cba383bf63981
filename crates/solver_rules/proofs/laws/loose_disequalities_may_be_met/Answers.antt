use Rattle.solver_rules.proofs.Settled.{loose_disequalities_may_be_met}
use Rattle.solver_rules.proofs.laws.loose_disequalities_may_be_met.Goals as goal

pub returns : goal.returns
returns c = loose_disequalities_may_be_met
