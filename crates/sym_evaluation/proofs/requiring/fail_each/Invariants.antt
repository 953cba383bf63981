use Rattle.std.proofs.Common.{◌≡◌, ◌++◌, take}
use Rattle.pure_terms.specs.View.{atoms_view}
use Rattle.sym_model.specs.Alternatives.{alternatives_view}
use Rattle.sym_evaluation.specs.Checks.{failing}
use Rattle.sym_evaluation.specs.View.{fault_view, faults_view}
use Rattle.sym_evaluation.proofs.requiring.fail_each.Given as goal

abbrev pub invariant-loop-alternative : goal.invariant-loop-alternative
invariant-loop-alternative l =
    faults_view l.faults ≡ faults_view l.fn.faults ++ failing (fault_view l.fault) (atoms_view l.conds) (alternatives_view (take l.alternative-index l.alternative-items))
