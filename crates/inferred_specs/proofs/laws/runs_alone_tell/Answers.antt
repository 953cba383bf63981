use Rattle.inferred_specs.proofs.Alone as proved
use Rattle.inferred_specs.proofs.laws.runs_alone_tell.Goals as goal

pub returns : goal.returns
returns c = proved.runs_alone_tell
