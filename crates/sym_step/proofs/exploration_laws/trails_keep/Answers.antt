use Rattle.sym_step.proofs.Kept.{trails_keep}
use Rattle.sym_step.proofs.exploration_laws.trails_keep.Goals as goal

pub returns : goal.returns
returns g c = λ p. trails_keep p _ _ _ _
