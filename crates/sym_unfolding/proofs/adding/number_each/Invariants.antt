use Rattle.std.proofs.Common.{◌≡◌}
use Rattle.sym_states.specs.View.{states_view}
use Rattle.sym_unfolding.specs.Adding.{numbered}
use Rattle.sym_unfolding.specs.View.{cases_view}
use Rattle.sym_unfolding.proofs.adding.number_each.Given as goal

abbrev pub invariant-loop-state : goal.invariant-loop-state
invariant-loop-state g l = cases_view l.cases ≡ numbered l.number (states_view l.yielded)
