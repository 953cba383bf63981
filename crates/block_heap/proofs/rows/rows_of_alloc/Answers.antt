use Rattle.std.proofs.Common.{[], pos, ap}
use Rattle.mem_model.specs.declared.keys.Sub.TheVariants.{Bound}
use Rattle.mem_model.specs.Keys.{key}
use Rattle.mem_model.specs.Rows.{number}
use Rattle.mem_model.specs.Tables.{does}
use Rattle.mem_model.proofs.EntryLists.{created-entries}
use Rattle.block_heap.specs.Rows.{cell}
use Rattle.block_heap.specs.Table.{cell_keys}
use Rattle.block_heap.specs.BlockLaws.{sizes_are_given, other_sizes_fail}
use Rattle.block_heap.proofs.rows.rows_of_alloc.Goals as goal

pub returns-clause-two_cells : goal.returns-clause-two_cells
returns-clause-two_cells c = ap (does (cell (pos 0))) (created-entries (key 3 Bound) (number (pos 2)) (cell_keys 3 2) (number (pos 0)) [])

pub returns-clause-no_cells : goal.returns-clause-no_cells
returns-clause-no_cells c = ap (does (cell (pos 0))) (created-entries (key 3 Bound) (number (pos 0)) (cell_keys 3 0) (number (pos 0)) [])

pub returns-clause-sizes : goal.returns-clause-sizes
returns-clause-sizes c = sizes_are_given

pub returns-clause-other_sizes : goal.returns-clause-other_sizes
returns-clause-other_sizes c = other_sizes_fail
