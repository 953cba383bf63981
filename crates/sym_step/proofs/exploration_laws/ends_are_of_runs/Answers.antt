use Rattle.sym_step.proofs.Kept.{ends_of_runs}
use Rattle.sym_step.proofs.exploration_laws.ends_are_of_runs.Goals as goal

pub returns : goal.returns
returns c = ends_of_runs
