use Rattle.sym_model.proofs.Telling.{same_tells, other_tells}
use Rattle.sym_model.proofs.condition_laws.comparisons_tell.Goals as goal

pub returns : goal.returns
returns c = record { equal = same_tells; different = other_tells }
