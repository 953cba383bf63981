use Rattle.sym_paths.proofs.Turning.{guards_keep_the_laws}
use Rattle.sym_paths.proofs.candidates.guards_keep_the_laws.Goals as goal

pub returns : goal.returns
returns g c = guards_keep_the_laws g.M.SymMemory.stands g.M.SymMemory.terms
