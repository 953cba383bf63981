use Rattle.std.proofs.Common.{arith}
use Rattle.gil_values.proofs.Views.{value_size-element, values_view-element}
use Rattle.writable_reports.proofs.values.+value.Goals as goal

pub are_writable_values-is_writable_value-requires : goal.are_writable_values-is_writable_value-requires
are_writable_values-is_writable_value-requires t c =
    let element = values_view-element _ _ c.loop-value.value-index _ c.as_slice-value-items.ensures c.loop-value-test.true c.value-item.is in
    let smaller = value_size-element _ c.loop-value.value-index _ element in
    (omega (arith, smaller), tt)
