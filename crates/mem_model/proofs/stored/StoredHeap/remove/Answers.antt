use Rattle.mem_model.proofs.StoredHeaps.{seen_removed}
use Rattle.mem_model.proofs.stored.StoredHeap.remove.Goals as goal

pub returns : goal.returns
returns c = seen_removed c.args.self.now.entries.entries c.remove.new.self.entries c.args.key.now c.remove.ensures.updates.0
