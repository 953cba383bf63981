use Rattle.std.proofs.Common.{◌≡◌, ◌++◌, map, drop}
use Rattle.gil_values.specs.View.{value_view}
use Rattle.mem_model.specs.Tables.{texts_of, name_keys}
use Rattle.mem_model.proofs.names.keys_of_names.Given as goal

abbrev pub invariant-loop-value : goal.invariant-loop-value
invariant-loop-value l = l.keys.items ++ name_keys l.location (texts_of (map value_view (drop l.value-index l.names))) ≡ name_keys l.location (texts_of (map value_view l.names))
