use Rattle.std.proofs.Common.{◌≡◌}
use Rattle.sym_model.specs.View.{branches_view}
use Rattle.sym_states.specs.Producing.{divided}
use Rattle.sym_states.specs.View.{state_view, arguments_view, production_view}
use Rattle.sym_states.proofs.adding.divide.Given as goal

abbrev pub invariant-loop-branch : goal.invariant-loop-branch
invariant-loop-branch g l = production_view l.production ≡ divided (state_view l.state) (arguments_view l.arguments) (branches_view l.yielded)
