use Rattle.std.proofs.Common.{◌≡◌, ◌++◌}
use Rattle.sym_states.specs.View.{states_view}
use Rattle.sym_states.proofs.production.push_all.Given as goal

abbrev pub invariant-loop-state : goal.invariant-loop-state
invariant-loop-state g l = states_view l.states ≡ states_view l.fn.states ++ states_view l.yielded
