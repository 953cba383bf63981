use Rattle.sym_paths.proofs.Beginning.{beginnings_stand}
use Rattle.sym_paths.proofs.laws.beginnings_stand.Goals as goal

pub returns : goal.returns
returns g c = beginnings_stand g.M.SymMemory.stands g.M.SymMemory.terms g.M.SymMemory.plain
