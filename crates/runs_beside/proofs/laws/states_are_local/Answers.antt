use Rattle.runs_beside.proofs.Runs as proved
use Rattle.runs_beside.proofs.laws.states_are_local.Goals as goal

pub returns : goal.returns
returns c = proved.states_are_local
