use Rattle.std.proofs.Common.{sym, subst, ◌∙◌}
use Rattle.mem_model.specs.Stored.{stored_heap_view}
use Rattle.mem_model.specs.Tables.{LacksAll}
use Rattle.mem_model.proofs.Making.{lacks_new, new_location}
use Rattle.block_heap.specs.Table.{cell_keys}
use Rattle.block_heap.specs.Cells.{cells_fit}
use Rattle.block_heap.proofs.table.make.Goals as goal

pub create-requires : goal.create-requires
create-requires c =
    subst (LacksAll (stored_heap_view c.args.heap.now)) (sym (c.deref.ensures.value ∙ c.in_ok-keys.ensures))
    (lacks_new c.in-Some.location (cell_keys c.in-Some.location c.number_of_cells.result) (stored_heap_view c.args.heap.now)
    (new_location c.args.fresh c.in-Some.location (stored_heap_view c.args.heap.now) c.in-Some.is c.requires.new)
    (λ q among. (cells_fit c.in-Some.location c.number_of_cells.result q among).0))
