use Rattle.std.proofs.Common.{◌≡◌, ◌++◌, drop, map}
use Rattle.sym_chunks.specs.View.{way_view, ways_view}
use Rattle.pure_terms.specs.View.{term_view}
use Rattle.sym_model.specs.View.{frag_view, chunk_view, sub_view}
use Rattle.sym_chunks.specs.Walking.{ways_from}
use Rattle.sym_chunks.proofs.walking.take_somewhere.Given as goal

abbrev pub invariant-loop-index : goal.invariant-loop-index
invariant-loop-index l =
    ways_view l.ways ++ ways_from (term_view l.l) (sub_view l.s) (way_view l.way) l.index (map chunk_view (drop l.index l.chunk-items))
    ≡ ways_view l.fn.ways ++ ways_from (term_view l.l) (sub_view l.s) (way_view l.way) 0 (frag_view l.way.left)
