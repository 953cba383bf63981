use Rattle.sym_paths.proofs.Calling.{calls_lead}
use Rattle.sym_paths.proofs.laws.calls_lead.Goals as goal

pub returns : goal.returns
returns g c = calls_lead _ g.M.SymMemory.stands g.M.SymMemory.terms
