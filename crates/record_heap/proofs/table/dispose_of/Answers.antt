use Rattle.std.proofs.Common.{sym, subst, ◌∙◌}
use Rattle.gil_values.specs.View.{value_view}
use Rattle.mem_model.specs.declared.keys.Sub.TheVariants.{Shape}
use Rattle.mem_model.specs.Keys.{key}
use Rattle.mem_model.specs.Stored.{stored_heap_view}
use Rattle.mem_model.specs.Tables.{IsWhole}
use Rattle.record_heap.specs.Records.{record_whole}
use Rattle.record_heap.proofs.table.dispose_of.Goals as goal

pub dispose-requires : goal.dispose-requires
dispose-requires c =
    subst (IsWhole (stored_heap_view c.args.heap.now) c.args.location (key c.args.location Shape)) (sym (c.deref.ensures.value ∙ c.in_ok-keys-in-Some.ensures))
    (record_whole (stored_heap_view c.args.heap.now) c.args.location (value_view c.in-Some.names.now) c.requires (sym c.in-Some.ensures))
