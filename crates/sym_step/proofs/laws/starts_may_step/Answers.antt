use Rattle.sym_step.proofs.Starting.{starts_may_step}
use Rattle.sym_step.proofs.laws.starts_may_step.Goals as goal

pub returns : goal.returns
returns g c = starts_may_step g.M.SymMemory.stands g.M.SymMemory.terms
