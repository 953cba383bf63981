use Rattle.std.proofs.Common.{◌++◌, take}
use Rattle.pure_terms.specs.Meaning.{IsUnsatisfiable}
use Rattle.pure_terms.specs.View.{atoms_view}
use Rattle.sym_model.specs.Alternatives.{alternatives_view}
use Rattle.sym_model.specs.Lists.{Each}
use Rattle.checked_rows.proofs.ending.alternative_there.Given as goal

abbrev pub invariant-loop-more : goal.invariant-loop-more
invariant-loop-more g l = Each (λ more. IsUnsatisfiable l.vars (atoms_view l.conds ++ more)) (alternatives_view (take l.more-index l.more-items))
