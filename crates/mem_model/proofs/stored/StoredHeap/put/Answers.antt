use Rattle.mem_model.proofs.StoredHeaps.{seen_inserted}
use Rattle.mem_model.proofs.stored.StoredHeap.put.Goals as goal

pub returns-clause-ok : goal.returns-clause-ok
returns-clause-ok c = seen_inserted c.args.self.now.entries.entries c.insert.new.self.entries c.args.key c.args.value c.in_ok-insert.ensures.updates.0
