use Rattle.std.proofs.Common.{take}
use Rattle.pure_terms.specs.View.{atoms_view}
use Rattle.sym_evaluation.specs.View.{store_view}
use Rattle.call_rows.specs.Arguments.{FitParams}
use Rattle.call_rows.proofs.arguments.arguments_doubt.Given as goal

abbrev pub invariant-loop-param : goal.invariant-loop-param
invariant-loop-param g l = FitParams l.vars (atoms_view l.conds) (store_view l.store) l.params (take l.param-index l.param-items)
