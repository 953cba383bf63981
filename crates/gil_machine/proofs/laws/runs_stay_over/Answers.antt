use Rattle.gil_machine.proofs.Runs.{stays_over, stays_over_as_told}
use Rattle.gil_machine.proofs.laws.runs_stay_over.Goals as goal

pub returns-clause-raw : goal.returns-clause-raw
returns-clause-raw c = stays_over

pub returns-clause-told : goal.returns-clause-told
returns-clause-told c = stays_over_as_told
