use Rattle.std.proofs.Common.{◌≡◌, ◌++◌, map, take, false}
use Rattle.sym_model.specs.Alternatives.{alternatives_view, both, is_empty}
use Rattle.std.specs.List.{list_any}
use Rattle.sym_model.proofs.combining.is_sure.Given as goal

abbrev pub invariant-loop-conditions : goal.invariant-loop-conditions
invariant-loop-conditions l = list_any is_empty (alternatives_view (take l.conditions-index l.conditions-items)) ≡ false
