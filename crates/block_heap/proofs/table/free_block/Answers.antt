use Rattle.std.proofs.Common.{◌≡◌, ap, sym, subst, ◌∙◌}
use Rattle.gil_values.specs.View.{value_view}
use Rattle.mem_model.specs.Heaps.{Holds}
use Rattle.mem_model.specs.Stored.{stored_heap_view}
use Rattle.mem_model.specs.Tables.{IsWhole}
use Rattle.block_heap.specs.Table.{cell_keys, count_of}
use Rattle.block_heap.specs.Cells.{block_whole}
use Rattle.block_heap.proofs.table.free_block.Goals as goal

pub dispose-requires : goal.dispose-requires
dispose-requires c =
    let keys : c.deref.result.now ≡ cell_keys c.args.location (count_of (value_view c.in-Some.cells.now)) = c.deref.ensures.value ∙ c.in_ok-keys-in-None-least_missing.ensures ∙ ap (cell_keys c.args.location) c.number_of_cells-count.ensures.number in
    subst (IsWhole (stored_heap_view c.args.heap.now) c.args.location c.key_at-bound.result) (sym keys)
    (subst (λ k. IsWhole (stored_heap_view c.args.heap.now) c.args.location k (cell_keys c.args.location (count_of (value_view c.in-Some.cells.now)))) (sym c.key_at-bound.ensures)
    (block_whole (stored_heap_view c.args.heap.now) c.args.location (value_view c.in-Some.cells.now) c.requires
    (subst (λ k. Holds (stored_heap_view c.args.heap.now) k (value_view c.in-Some.cells.now)) c.key_at-bound.ensures (sym c.in-Some.ensures))))
