use Rattle.std.proofs.Common.{◌≡◌, ◌-◌, drop, map}
use Rattle.pure_terms.specs.View.{term_view}
use Rattle.block_sym.specs.Table.{cells_at}
use Rattle.sym_model.specs.View.{chunk_view}
use Rattle.block_sym.proofs.whole.lacking.Given as goal

abbrev pub invariant-loop-chunk : goal.invariant-loop-chunk
invariant-loop-chunk l =
    l.lacking - cells_at (term_view l.place) (map chunk_view (drop l.chunk-index l.chunks)) ≡ l.count - cells_at (term_view l.place) (map chunk_view l.chunks)
