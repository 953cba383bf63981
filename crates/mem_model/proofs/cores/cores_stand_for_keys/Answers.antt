use Rattle.mem_model.proofs.CoreLaws.{cores_stand_for_keys}
use Rattle.mem_model.proofs.cores.cores_stand_for_keys.Goals as goal

pub returns : goal.returns
returns c = cores_stand_for_keys
