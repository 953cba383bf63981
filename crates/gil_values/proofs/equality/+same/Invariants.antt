use Rattle.std.proofs.Common.{◌≡◌, take, map}
use Rattle.gil_values.specs.View.{value_view}
use Rattle.gil_values.proofs.equality.+same.Given as goal

abbrev pub invariant-are_equal_lists-loop-index : goal.invariant-are_equal_lists-loop-index
invariant-are_equal_lists-loop-index l = take l.index (map value_view l.vs.items.items) ≡ take l.index (map value_view l.ws.items.items)
