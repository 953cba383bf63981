use Rattle.std.proofs.Common.{◌≡◌, ◌++◌, drop, map}
use Rattle.pure_terms.specs.View.{term_view}
use Rattle.block_sym.specs.Table.{elsewhere}
use Rattle.sym_model.specs.View.{chunk_view, frag_view}
use Rattle.block_sym.proofs.whole.elsewhere.Given as goal

abbrev pub invariant-loop-chunk : goal.invariant-loop-chunk
invariant-loop-chunk l =
    frag_view l.left ++ elsewhere (term_view l.place) (map chunk_view (drop l.chunk-index l.chunk-items)) ≡ elsewhere (term_view l.place) (frag_view l.chunks)
