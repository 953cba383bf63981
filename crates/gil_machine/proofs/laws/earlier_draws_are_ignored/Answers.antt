use Rattle.gil_machine.proofs.Later.{steps_are_same_later, runs_are_same_later}
use Rattle.gil_machine.proofs.laws.earlier_draws_are_ignored.Goals as goal

pub returns-clause-steps : goal.returns-clause-steps
returns-clause-steps c = steps_are_same_later

pub returns-clause-runs : goal.returns-clause-runs
returns-clause-runs c = runs_are_same_later
