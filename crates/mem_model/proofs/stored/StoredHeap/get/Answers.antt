use Rattle.std.proofs.Common.{sym, ap, ◌∙◌}
use Rattle.std.specs.Option.{option_map}
use Rattle.gil_values.specs.View.{value_view}
use Rattle.mem_model.proofs.StoredHeaps.{get-seen, seen_ref}
use Rattle.mem_model.proofs.stored.StoredHeap.get.Goals as goal

pub returns : goal.returns
returns c = seen_ref c.get.result ∙ ap (option_map value_view) c.get.ensures.value ∙ sym (get-seen c.args.self.now.entries.entries c.args.key.now)
