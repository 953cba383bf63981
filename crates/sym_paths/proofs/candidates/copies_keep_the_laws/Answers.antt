use Rattle.sym_model.specs.Lists.{IsAmong}
use Rattle.sym_paths.proofs.CandidateCopies.{copies_keep_the_laws}
use Rattle.sym_paths.proofs.candidates.copies_keep_the_laws.Goals as goal

pub returns : goal.returns
returns g c = λ p m asked of_memory path. copies_keep_the_laws g.M.SymMemory.stands g.M.SymMemory.terms g.M.SymMemory.depends g.M.SymMemory.plain p m (λ a. IsAmong a asked) (λ a. IsAmong a of_memory) path
