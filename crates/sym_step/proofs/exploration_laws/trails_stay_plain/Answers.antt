use Rattle.sym_step.proofs.Plain.{trails_stay_plain}
use Rattle.sym_step.proofs.exploration_laws.trails_stay_plain.Goals as goal

pub returns : goal.returns
returns g c = λ p. trails_stay_plain p _ _ _ _ _
