use Rattle.sym_paths.proofs.Growing.{paths_may_grow}
use Rattle.sym_paths.proofs.laws.paths_may_grow.Goals as goal

pub returns : goal.returns
returns g c = paths_may_grow _ _ _ g.met.M.SymMemory.meaning
