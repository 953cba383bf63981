use Rattle.std.proofs.Common.{◌≡◌, [], map, take, drop}
use Rattle.gil_syntax.specs.View.{item_view}
use Rattle.assert_logic.specs.Modes.{items_fault}
use Rattle.assert_logic.specs.ModesView.{scope_view}
use Rattle.assert_logic.proofs.reading.assertion_fault.Given as goal

abbrev pub invariant-loop-place : goal.invariant-loop-place
invariant-loop-place l =
    items_fault l.memory (scope_view l.scope) [] (map item_view l.items)
    ≡ items_fault l.memory (scope_view l.scope) (map item_view (take l.place l.items)) (map item_view (drop l.place l.items))
