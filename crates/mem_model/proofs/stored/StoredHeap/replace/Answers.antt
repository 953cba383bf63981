use Rattle.std.proofs.Common.{is_some, sym, ap, ◌∙◌, true≢false}
use Rattle.std.specs.Option.{option_map}
use Rattle.gil_values.specs.View.{value_view}
use Rattle.mem_model.proofs.StoredHeaps.{seen_inserted, get-seen}
use Rattle.mem_model.proofs.stored.StoredHeap.replace.Goals as goal

pub unreachable-requires : goal.unreachable-requires
unreachable-requires c = true≢false (sym c.requires ∙ ap is_some (get-seen c.args.self.now.entries.entries c.args.key ∙ ap (option_map value_view) c.in-Err.ensures.absent))

pub returns : goal.returns
returns c = seen_inserted c.args.self.now.entries.entries c.insert.new.self.entries c.args.key c.args.value c.in-Ok.ensures.updates.0
