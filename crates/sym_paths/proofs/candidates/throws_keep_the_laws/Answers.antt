use Rattle.sym_paths.proofs.Throwing.{throws_keep_the_laws}
use Rattle.sym_paths.proofs.candidates.throws_keep_the_laws.Goals as goal

pub returns : goal.returns
returns g c = throws_keep_the_laws g.M.SymMemory.stands g.M.SymMemory.terms
