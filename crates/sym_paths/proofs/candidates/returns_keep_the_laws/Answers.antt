use Rattle.sym_paths.proofs.Returning.{returns_keep_the_laws}
use Rattle.sym_paths.proofs.candidates.returns_keep_the_laws.Goals as goal

pub returns : goal.returns
returns g c = returns_keep_the_laws g.M.SymMemory.stands g.M.SymMemory.terms
