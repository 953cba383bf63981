use Rattle.std.proofs.Common.{◌≡◌, ◌++◌, take, map}
use Rattle.gil_values.specs.View.{value_view, values_view}
use Rattle.gil_values.proofs.apply.sequences.append_lists.Given as goal

abbrev pub invariant-loop-w : goal.invariant-loop-w
invariant-loop-w l = values_view l.joined ≡ values_view l.vs ++ map value_view (take l.w-index l.w-items)
