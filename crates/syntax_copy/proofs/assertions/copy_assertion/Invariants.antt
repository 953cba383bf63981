use Rattle.std.proofs.Common.{◌≡◌, take, map}
use Rattle.gil_syntax.specs.View.{item_view}
use Rattle.syntax_copy.proofs.assertions.copy_assertion.Given as goal

abbrev pub invariant-loop-item : goal.invariant-loop-item
invariant-loop-item l = map item_view l.list ≡ map item_view (take l.item-index l.items)
