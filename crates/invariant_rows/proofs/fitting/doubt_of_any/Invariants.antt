use Rattle.std.proofs.Common.{take}
use Rattle.pure_terms.specs.View.{atoms_view}
use Rattle.sym_model.specs.Alternatives.{alternatives_view}
use Rattle.invariant_rows.specs.Fitting.{NeverMet}
use Rattle.invariant_rows.proofs.fitting.doubt_of_any.Given as goal

abbrev pub invariant-loop-more : goal.invariant-loop-more
invariant-loop-more g l = NeverMet l.vars (atoms_view l.conds) (alternatives_view (take l.more-index l.more-items))
