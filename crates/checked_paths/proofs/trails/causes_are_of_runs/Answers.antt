use Rattle.checked_paths.proofs.TrailSteps.{cause_reached}
use Rattle.checked_paths.proofs.trails.causes_are_of_runs.Goals as goal

pub returns : goal.returns
returns g c = λ p e entry start n x v0 w c0 cause beside may right decided continued meets. cause_reached _ _ _ _ g.met.M.SymMemory.meaning p e entry start v0 c0 beside.standing n x w beside.trail may cause right decided continued meets
