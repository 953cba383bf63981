use Rattle.gil_machine.proofs.HeldRuns.{held_runs_are_runs}
use Rattle.gil_machine.proofs.HeldValues.{held_values_are_values}
use Rattle.gil_machine.proofs.laws.held_runs_are_runs.Goals as goal

pub returns-clause-values : goal.returns-clause-values
returns-clause-values c = held_values_are_values

pub returns-clause-runs : goal.returns-clause-runs
returns-clause-runs c = held_runs_are_runs
