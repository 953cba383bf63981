use Rattle.checked_paths.proofs.TrailSteps.{runs_follow_on}
use Rattle.checked_paths.proofs.trails.runs_follow_trails.Goals as goal

pub returns : goal.returns
returns g c = λ p e entry start n x v0 w c0 beside continued meets. runs_follow_on _ _ _ _ g.met.M.SymMemory.meaning p e entry start v0 c0 beside.standing n x w beside.trail continued meets
