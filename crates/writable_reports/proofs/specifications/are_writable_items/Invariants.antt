use Rattle.std.proofs.Common.{◌≡◌, drop, map}
use Rattle.std.specs.List.{list_all}
use Rattle.gil_syntax.specs.View.{item_view}
use Rattle.writable_reports.specs.Tests.{is_writable_item}
use Rattle.writable_reports.proofs.specifications.are_writable_items.Given as goal

abbrev pub invariant-loop-item : goal.invariant-loop-item
invariant-loop-item l = list_all is_writable_item (map item_view (drop l.item-index l.items)) ≡ list_all is_writable_item (map item_view l.items)
