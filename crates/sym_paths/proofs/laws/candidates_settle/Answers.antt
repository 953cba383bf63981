use Rattle.sym_model.specs.Lists.{IsAmong}
use Rattle.sym_paths.proofs.Settled.{settled_are_next}
use Rattle.sym_paths.proofs.laws.candidates_settle.Goals as goal

pub returns : goal.returns
returns g c = λ p m asked of_memory path. settled_are_next p m g.M.SymMemory.stands g.M.SymMemory.terms (λ a. IsAmong a asked) (λ a. IsAmong a of_memory) path
