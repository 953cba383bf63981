use Rattle.std.proofs.Common.{◌≡◌, ◌++◌, map, take, false}
use Rattle.sym_model.specs.Alternatives.{alternatives_view, both, is_empty}
use Rattle.sym_model.proofs.combining.both.Given as goal

abbrev pub invariant-loop-conditions : goal.invariant-loop-conditions
invariant-loop-conditions l = alternatives_view l.alternatives ≡ both (alternatives_view (take l.conditions-index l.conditions-items)) (alternatives_view l.second)
