use Rattle.mem_model.specs.Stored.{stored_heap_view}
use Rattle.block_heap.specs.Cells.{missing_goes_on}
use Rattle.block_heap.proofs.cells.least_missing.Goals as goal

pub loop-offset-preserved : goal.loop-offset-preserved
loop-offset-preserved c = missing_goes_on (stored_heap_view c.args.heap.now) c.args.location c.loop-offset.offset c.args.count c.cell-key.result c.has.result c.loop-offset-test.true c.cell-key.ensures c.has.ensures (cc) c.loop-offset.invariant
