use Rattle.std.proofs.Common.{◌≡◌, take}
use Rattle.pure_terms.specs.View.{atoms_view}
use Rattle.bi_specifications.specs.Shape.{early_conds}
use Rattle.bi_specifications.proofs.conditions.early_conditions.Given as goal

abbrev pub invariant-loop-condition : goal.invariant-loop-condition
invariant-loop-condition l = atoms_view l.early ≡ early_conds l.count (atoms_view (take l.condition-index l.condition-items))
