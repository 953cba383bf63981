use Rattle.std.proofs.Common.{◌≡◌, ◌-◌}
use Rattle.mem_model.specs.Stored.{stored_heap_view}
use Rattle.mem_model.specs.Tables.{first_missing}
use Rattle.block_heap.specs.Table.{cells_from, cell_keys}
use Rattle.block_heap.proofs.cells.least_missing.Given as goal

abbrev pub invariant-loop-offset : goal.invariant-loop-offset
invariant-loop-offset l = first_missing (stored_heap_view l.heap) (cells_from l.location l.offset (l.count - l.offset)) ≡ first_missing (stored_heap_view l.heap) (cell_keys l.location l.count)
