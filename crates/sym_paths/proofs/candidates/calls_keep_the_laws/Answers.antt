use Rattle.sym_paths.proofs.CandidateCalls.{calls_keep_the_laws}
use Rattle.sym_paths.proofs.candidates.calls_keep_the_laws.Goals as goal

pub returns : goal.returns
returns g c = calls_keep_the_laws g.M.SymMemory.stands g.M.SymMemory.terms
