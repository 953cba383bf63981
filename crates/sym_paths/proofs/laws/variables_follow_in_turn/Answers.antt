use Rattle.sym_paths.proofs.Valuations.{variables_follow_in_turn}
use Rattle.sym_paths.proofs.laws.variables_follow_in_turn.Goals as goal

pub returns : goal.returns
returns c = variables_follow_in_turn
