use Rattle.pure_terms.specs.View.{atoms_view}
use Rattle.sym_model.specs.Lists.{Each}
use Rattle.bi_beginnings.specs.Fixing.{IsCarried}
use Rattle.bi_beginnings.proofs.again.carried.Given as goal

abbrev pub invariant-loop-atom : goal.invariant-loop-atom
invariant-loop-atom l = Each (IsCarried l.vars (atoms_view l.conds)) (atoms_view l.atoms)
