use Rattle.sym_step.proofs.Kept.{trails_may_end_before}
use Rattle.sym_step.proofs.exploration_laws.trails_may_end_before.Goals as goal

pub returns : goal.returns
returns g c = λ p. trails_may_end_before p _ _ _ _
