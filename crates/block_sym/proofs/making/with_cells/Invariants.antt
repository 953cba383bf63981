use Rattle.std.proofs.Common.{◌≡◌, ◌-◌, ◌++◌}
use Rattle.block_sym.specs.Table.{new_cells}
use Rattle.sym_model.specs.View.{frag_view}
use Rattle.block_sym.proofs.making.with_cells.Given as goal

abbrev pub invariant-loop-offset : goal.invariant-loop-offset
invariant-loop-offset l = frag_view l.made ++ new_cells l.location l.offset (l.count - l.offset) ≡ frag_view l.chunks ++ new_cells l.location 0 l.count
