use Rattle.sym_step.proofs.Kept.{trails_replay}
use Rattle.sym_step.proofs.exploration_laws.trails_replay.Goals as goal

pub returns : goal.returns
returns g c = λ p. trails_replay p _ _ _ _
