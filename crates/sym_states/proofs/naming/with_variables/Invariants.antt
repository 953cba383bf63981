use Rattle.std.proofs.Common.{take}
use Rattle.sym_evaluation.specs.View.{store_view}
use Rattle.sym_states.specs.Naming.{IsNaming}
use Rattle.sym_states.specs.NamingView.{named_view}
use Rattle.sym_states.proofs.naming.with_variables.Given as goal

abbrev pub invariant-loop-name : goal.invariant-loop-name
invariant-loop-name l = IsNaming l.params (take l.name-index l.name-items) l.fn.vars (store_view l.fn.store) (named_view l.named)
