use Rattle.checked_paths.proofs.Above.{stands_above}
use Rattle.checked_paths.proofs.laws.standing_is_above.Goals as goal

pub returns : goal.returns
returns g c = stands_above _ _ _ g.met.M.SymMemory.meaning
