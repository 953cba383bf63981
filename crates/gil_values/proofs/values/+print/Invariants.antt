use Rattle.std.proofs.Common.{◌≡◌, ◌+◌, ◌*◌, ◌++◌, take, string_bytes}
use Rattle.std.specs.Prelude.{codes}
use Rattle.gil_values.specs.Pure.{value_size, values_size, from_list}
use Rattle.gil_values.specs.View.{value_view, values_view}
use Rattle.gil_values.proofs.Joined.{joined}
use Rattle.gil_values.proofs.values.+print.Given as goal

abbrev pub decreases-push_value : goal.decreases-push_value
decreases-push_value l = 2 * value_size (value_view l.value.now)

abbrev pub decreases-push_values : goal.decreases-push_values
decreases-push_values l = 2 * values_size (from_list (values_view l.values.now)) + 1

abbrev pub invariant-push_values-loop-index : goal.invariant-push_values-loop-index
invariant-push_values-loop-index l = string_bytes l.out ≡ string_bytes l.fn.out ++ (codes "[" ++ joined (take l.index (values_view l.values)))
