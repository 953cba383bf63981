use Rattle.sym_paths.proofs.Valued.{valued_candidates}
use Rattle.sym_paths.proofs.laws.valued_candidates_keep_the_laws.Goals as goal

pub returns : goal.returns
returns g c = valued_candidates g.M.SymMemory.stands g.M.SymMemory.terms
