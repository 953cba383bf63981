use Rattle.sym_model.proofs.Asking.{serving_may_act}
use Rattle.sym_model.proofs.laws.serving_valuations_may_act.Goals as goal

pub returns : goal.returns
returns g c = serving_may_act _ _ _ _ g.met.M.SymMemory.meaning
