use Rattle.std.proofs.Common.{◌≡◌, ◌+◌, ◌*◌, drop, map}
use Rattle.gil_values.specs.Pure.{from_list, value_size, values_size}
use Rattle.gil_values.specs.View.{value_view, values_view}
use Rattle.writable_reports.specs.Tests.{are_writable_values}
use Rattle.writable_reports.proofs.values.+value.Given as goal

abbrev pub decreases-is_writable_value : goal.decreases-is_writable_value
decreases-is_writable_value l = 2 * value_size (value_view l.value.now)

abbrev pub decreases-are_writable_values : goal.decreases-are_writable_values
decreases-are_writable_values l = 2 * values_size (from_list (values_view l.values.now)) + 1

abbrev pub invariant-are_writable_values-loop-value : goal.invariant-are_writable_values-loop-value
invariant-are_writable_values-loop-value l =
    are_writable_values (from_list (map value_view (drop l.value-index l.value-items))) ≡ are_writable_values (from_list (map value_view l.value-items))
