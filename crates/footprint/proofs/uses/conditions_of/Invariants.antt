use Rattle.std.proofs.Common.{◌≡◌, map}
use Rattle.sym_model.specs.Alternatives.{alternatives_view}
use Rattle.sym_evaluation.specs.View.{faults_view}
use Rattle.footprint.proofs.uses.conditions_of.Given as goal

abbrev pub invariant-loop-case : goal.invariant-loop-case
invariant-loop-case l = alternatives_view l.alternatives ≡ map (λ c. c.conds) (faults_view l.yielded)
