use Rattle.std.proofs.Common.{is_some, sym, ap, ◌∙◌}
use Rattle.mem_model.proofs.StoredHeaps.{get-seen, seen_some}
use Rattle.mem_model.proofs.stored.StoredHeap.has.Goals as goal

pub returns : goal.returns
returns c = c.contains_key.ensures ∙ seen_some _ ∙ ap is_some (sym (get-seen c.args.self.now.entries.entries c.args.key.now))
