use Rattle.std.proofs.Common.{take}
use Rattle.pure_terms.specs.View.{atoms_view}
use Rattle.sym_evaluation.specs.View.{store_view}
use Rattle.invariant_rows.specs.Fitting.{AllFit}
use Rattle.invariant_rows.proofs.fitting.doubt_of_sorts.Given as goal

abbrev pub invariant-loop-param : goal.invariant-loop-param
invariant-loop-param g l = AllFit l.scope l.vars (atoms_view l.conds) (store_view l.names) (take l.param-index l.param-items)
