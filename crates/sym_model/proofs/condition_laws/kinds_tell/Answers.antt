use Rattle.sym_model.proofs.Telling.{of_kind_tells, not_of_kind_tells}
use Rattle.sym_model.proofs.condition_laws.kinds_tell.Goals as goal

pub returns : goal.returns
returns c = record { is = of_kind_tells; isnt = not_of_kind_tells }
