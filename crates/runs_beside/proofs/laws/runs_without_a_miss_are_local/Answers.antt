use Rattle.runs_beside.proofs.Runs as proved
use Rattle.runs_beside.proofs.laws.runs_without_a_miss_are_local.Goals as goal

pub returns : goal.returns
returns c = proved.runs_without_a_miss_are_local
