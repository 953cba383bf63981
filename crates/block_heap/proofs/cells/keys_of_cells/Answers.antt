use Rattle.block_heap.specs.Cells.{keys_go_on}
use Rattle.block_heap.proofs.cells.keys_of_cells.Goals as goal

pub loop-offset-preserved : goal.loop-offset-preserved
loop-offset-preserved c = keys_go_on c.args.location c.loop-offset.offset c.args.count _ _ c.cell.result c.loop-offset-test.true c.cell.ensures c.in_ok-push.ensures.items c.loop-offset.invariant
