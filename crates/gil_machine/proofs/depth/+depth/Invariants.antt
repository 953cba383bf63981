use Rattle.std.proofs.Common.{◌≡◌, ◌+◌, ◌*◌, drop, map}
use Rattle.std.specs.Prelude.{nat_le}
use Rattle.gil_values.specs.Pure.{from_list}
use Rattle.gil_values.specs.View.{value_view}
use Rattle.gil_machine.specs.Depth.{deepest}
use Rattle.gil_machine.proofs.depth.+depth.Given as goal

abbrev pub decreases-is_no_deeper : goal.decreases-is_no_deeper
decreases-is_no_deeper l = 2 * l.limit

abbrev pub decreases-are_no_deeper : goal.decreases-are_no_deeper
decreases-are_no_deeper l = 2 * l.limit + 1

abbrev pub invariant-are_no_deeper-loop-value : goal.invariant-are_no_deeper-loop-value
invariant-are_no_deeper-loop-value l = nat_le (deepest (from_list (map value_view (drop l.value-index l.value-items)))) l.limit ≡ nat_le (deepest (from_list (map value_view l.value-items))) l.limit
