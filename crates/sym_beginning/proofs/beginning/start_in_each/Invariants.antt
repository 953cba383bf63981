use Rattle.gil_syntax.specs.View.{proc_view}
use Rattle.pure_terms.specs.View.{terms_view}
use Rattle.sym_states.specs.View.{states_view}
use Rattle.sym_beginning.specs.Starting.{BeginsEach}
use Rattle.sym_beginning.specs.View.{starts_view}
use Rattle.sym_beginning.proofs.beginning.start_in_each.Given as goal

abbrev pub invariant-loop-state : goal.invariant-loop-state
invariant-loop-state g l = BeginsEach (proc_view l.proc) (terms_view l.args) (states_view l.yielded) (starts_view l.starts)
