-- The pure data of states to which postconditions may be added.
use Rattle.pure_terms.specs.View.{term_view}
use Rattle.sym_evaluation.specs.View.{store_view}
use Rattle.sym_states.specs.View.{state_view}
use Rattle.call_rows.specs.declared.posts.Ready.{Ready}
use Rattle.call_rows.specs.Posts.{PureReady}

abbrev pub ready_view : {S : Type 0} → Ready S → PureReady S
ready_view r = record { state = state_view r.state; store = store_view r.store; result = term_view r.result }
