use Rattle.std.proofs.Common.{◌≡◌, ◌-◌, ◌++◌}
use Rattle.block_heap.specs.Table.{cells_from, cell_keys}
use Rattle.block_heap.proofs.cells.keys_of_cells.Given as goal

abbrev pub invariant-loop-offset : goal.invariant-loop-offset
invariant-loop-offset l = l.keys.items ++ cells_from l.location l.offset (l.count - l.offset) ≡ cell_keys l.location l.count
