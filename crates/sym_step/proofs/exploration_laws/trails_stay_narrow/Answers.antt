use Rattle.sym_step.proofs.Narrow.{trails_stay_narrow}
use Rattle.sym_step.proofs.exploration_laws.trails_stay_narrow.Goals as goal

pub returns : goal.returns
returns g c = λ p. trails_stay_narrow p _ _ _ _
