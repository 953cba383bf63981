use Rattle.std.proofs.Common.{is_some, sym, ap, subst}
use Rattle.mem_model.specs.Heaps.{HasKey}
use Rattle.mem_model.specs.Stored.{stored_heap_view}
use Rattle.mem_model.proofs.Holding.{has_inserted}
use Rattle.object_heap.proofs.table.assign.Goals as goal

pub replace-requires-2 : goal.replace-requires-2
replace-requires-2 c =
    subst (λ g. HasKey g c.key_at-domain.result) (sym c.in_ok-put.ensures.ok)
    (has_inserted (stored_heap_view c.args.heap.now) c.in_ok-property.property c.key_at-domain.result _ (ap is_some (sym c.in-Some.ensures)))
