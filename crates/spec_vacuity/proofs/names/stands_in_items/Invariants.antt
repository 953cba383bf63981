use Rattle.std.proofs.Common.{◌≡◌, map, take, false}
use Rattle.gil_syntax.specs.View.{item_view}
use Rattle.assert_logic.specs.Names.{named_by_items}
use Rattle.spec_vacuity.proofs.names.stands_in_items.Given as goal

abbrev pub invariant-loop-item : goal.invariant-loop-item
invariant-loop-item l = named_by_items (map item_view (take l.item-index l.items)) l.name ≡ false
