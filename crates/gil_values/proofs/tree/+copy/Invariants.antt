use Rattle.std.proofs.Common.{◌≡◌, take, map}
use Rattle.gil_values.specs.View.{value_view}
use Rattle.gil_values.proofs.tree.+copy.Given as goal

abbrev pub invariant-copy_values-loop-value : goal.invariant-copy_values-loop-value
invariant-copy_values-loop-value l = map value_view l.items.items ≡ map value_view (take l.value-index l.value-items)
