use Rattle.sym_step.proofs.Kept.{trails_hold_along}
use Rattle.sym_step.proofs.exploration_laws.trails_hold_along.Goals as goal

pub returns : goal.returns
returns g c = λ p. trails_hold_along p _ _ _ _
