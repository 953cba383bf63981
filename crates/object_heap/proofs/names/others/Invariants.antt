use Rattle.std.proofs.Common.{◌≡◌, ◌++◌, map, drop, not}
use Rattle.std.specs.Prelude.{filter}
use Rattle.gil_values.specs.Pure.{text}
use Rattle.gil_values.specs.Equality.{same_value}
use Rattle.gil_values.specs.View.{value_view, values_view}
use Rattle.object_heap.proofs.names.others.Given as goal

abbrev pub invariant-loop-value : goal.invariant-loop-value
invariant-loop-value l = values_view l.kept ++ filter (λ v. not (same_value (text l.name) v)) (map value_view (drop l.value-index l.values)) ≡ filter (λ v. not (same_value (text l.name) v)) (map value_view l.values)
