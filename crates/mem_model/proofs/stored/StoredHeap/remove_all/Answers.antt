use Rattle.mem_model.proofs.Changes.{without_none, without_more}
use Rattle.mem_model.proofs.stored.StoredHeap.remove_all.Goals as goal

pub loop-key-init : goal.loop-key-init
loop-key-init c = without_none _

pub loop-key-preserved : goal.loop-key-preserved
loop-key-preserved c = without_more c.args.keys.now c.loop-key.key-index c.key-item.result _ _ _ c.loop-key-test.true c.key-item.is c.loop-key.invariant c.remove.ensures
