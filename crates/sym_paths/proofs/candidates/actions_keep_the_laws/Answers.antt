use Rattle.sym_paths.proofs.Acting.{actions_keep_the_laws}
use Rattle.sym_paths.proofs.candidates.actions_keep_the_laws.Goals as goal

pub returns : goal.returns
returns g c = actions_keep_the_laws _ g.M.SymMemory.stands g.M.SymMemory.terms g.met.M.SymMemory.meaning g.M.SymMemory.asked _
