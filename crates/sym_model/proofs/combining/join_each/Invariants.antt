use Rattle.std.proofs.Common.{◌≡◌, ◌++◌, map, take, false}
use Rattle.pure_terms.specs.View.{atoms_view}
use Rattle.sym_model.specs.Alternatives.{alternatives_view, both, is_empty}
use Rattle.sym_model.proofs.combining.join_each.Given as goal

abbrev pub invariant-loop-conditions : goal.invariant-loop-conditions
invariant-loop-conditions l = alternatives_view l.alternatives ≡ alternatives_view l.fn.alternatives ++ map (λ b. atoms_view l.first ++ b) (alternatives_view (take l.conditions-index l.conditions-items))
