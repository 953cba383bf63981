use Rattle.std.proofs.Common.{◌≡◌, ◌*◌, ◌+◌, ◌++◌, take}
use Rattle.gil_values.specs.Pure.{value_size, values_size, from_list}
use Rattle.gil_values.specs.Symbols.{symbols_of_all}
use Rattle.gil_values.specs.View.{value_view, values_view}
use Rattle.sym_witness.proofs.symbols.+symbols.Given as goal

abbrev pub decreases-add_symbols : goal.decreases-add_symbols
decreases-add_symbols l = 2 * value_size (value_view l.value.now)

abbrev pub decreases-add_all_symbols : goal.decreases-add_all_symbols
decreases-add_all_symbols l = 2 * values_size (from_list (values_view l.values.now)) + 1

abbrev pub invariant-add_all_symbols-loop-value : goal.invariant-add_all_symbols-loop-value
invariant-add_all_symbols-loop-value l = l.found.items ≡ l.fn.found.items ++ symbols_of_all (take l.value-index (values_view l.values))
