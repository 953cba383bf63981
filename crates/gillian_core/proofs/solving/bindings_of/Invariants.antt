use Rattle.std.proofs.Common.{◌≡◌, map, take}
use Rattle.gil_values.specs.View.{value_view, values_view}
use Rattle.gillian_core.proofs.solving.bindings_of.Given as goal

abbrev pub invariant-loop-index : goal.invariant-loop-index
invariant-loop-index l = record {
  names : map (λ b. b.name) l.bindings ≡ take l.index l.names;
  values : map (λ b. value_view b.value) l.bindings ≡ take l.index (values_view l.values);
}
