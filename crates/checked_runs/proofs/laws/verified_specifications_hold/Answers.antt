use Rattle.checked_runs.proofs.FrameTheorem as proved
use Rattle.checked_runs.proofs.laws.verified_specifications_hold.Goals as goal

pub returns : goal.returns
returns c = proved.verified_specifications_hold
