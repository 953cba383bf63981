use Rattle.std.proofs.Common.{◌≡◌, take}
use Rattle.pure_terms.specs.View.{atoms_view}
use Rattle.bi_specifications.specs.Shape.{late_conds}
use Rattle.bi_specifications.proofs.conditions.late_conditions.Given as goal

abbrev pub invariant-loop-condition : goal.invariant-loop-condition
invariant-loop-condition l = atoms_view l.late ≡ late_conds l.count (atoms_view (take l.condition-index l.condition-items))
