use Rattle.mem_model.proofs.Compatible.{compatible_commutes}
use Rattle.mem_model.proofs.laws.compatible_is_symmetric.Goals as goal

pub returns : goal.returns
returns c = compatible_commutes
