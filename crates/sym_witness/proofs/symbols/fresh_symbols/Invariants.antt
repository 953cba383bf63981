use Rattle.std.proofs.Common.{◌≡◌, take, map}
use Rattle.gil_values.specs.View.{value_view}
use Rattle.sym_witness.specs.Numbering.{fresh_symbols}
use Rattle.sym_witness.proofs.symbols.fresh_symbols.Given as goal

abbrev pub invariant-loop-number : goal.invariant-loop-number
invariant-loop-number l = l.found.items ≡ fresh_symbols (take l.number l.sorts) (take l.number (map value_view l.values))
