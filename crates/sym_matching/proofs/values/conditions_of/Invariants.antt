use Rattle.std.proofs.Common.{◌≡◌, map}
use Rattle.sym_model.specs.Alternatives.{alternatives_view}
use Rattle.sym_evaluation.specs.View.{faults_view}
use Rattle.sym_matching.proofs.Evaluated.{conds_of}
use Rattle.sym_matching.proofs.values.conditions_of.Given as goal

abbrev pub invariant-loop-fault : goal.invariant-loop-fault
invariant-loop-fault l = alternatives_view l.alternatives ≡ map conds_of (faults_view l.yielded)
