use Rattle.sym_paths.proofs.Valuations.{later_variables_are_proper}
use Rattle.sym_paths.proofs.laws.later_variables_are_proper.Goals as goal

pub returns : goal.returns
returns c = later_variables_are_proper
