use Rattle.std.proofs.Common.{◌≡◌, map, drop}
use Rattle.std.specs.List.{list_any}
use Rattle.gil_values.specs.Pure.{text}
use Rattle.gil_values.specs.Equality.{same_value}
use Rattle.gil_values.specs.View.{value_view}
use Rattle.mem_model.proofs.names.lists.Given as goal

abbrev pub invariant-loop-value : goal.invariant-loop-value
invariant-loop-value l = list_any (same_value (text l.name)) (map value_view l.values) ≡ list_any (same_value (text l.name)) (map value_view (drop l.value-index l.values))
