use Rattle.std.proofs.Common.{◌≡◌, ◌-◌, ◌++◌}
use Rattle.pure_terms.specs.View.{term_view}
use Rattle.block_sym.specs.Table.{cell_subs}
use Rattle.sym_chunks.specs.View.{cases_view, ways_view}
use Rattle.sym_chunks.specs.Walking.{walk}
use Rattle.sym_model.specs.View.{frag_view}
use Rattle.block_sym.proofs.freeing.take_cells.Given as goal

abbrev pub invariant-loop-offset : goal.invariant-loop-offset
invariant-loop-offset l =
    cases_view l.walk.cases ++ walk (frag_view l.chunks) (term_view l.l) (cell_subs l.offset (l.count - l.offset)) (ways_view l.walk.ways)
    ≡ cases_view l.fn.cases ++ walk (frag_view l.chunks) (term_view l.l) (cell_subs 0 l.count) (ways_view l.fn.first)
