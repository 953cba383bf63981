use Rattle.std.proofs.Common.{◌≡◌, take}
use Rattle.gil_values.specs.View.{value_view, values_view}
use Rattle.std.specs.Prelude.{map}
use Rattle.sym_test.specs.Canonical.{draws_among}
use Rattle.sym_test.proofs.canonical.draws_among.Given as goal

abbrev pub invariant-loop-number : goal.invariant-loop-number
invariant-loop-number l = values_view l.inputs ≡ draws_among (take l.number l.sorts) (take l.number (map value_view l.values))
