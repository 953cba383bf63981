use Rattle.std.proofs.Common.{◌≡◌, drop, map}
use Rattle.sym_model.specs.Alternatives.{alternatives_view, always}
use Rattle.pure_terms.specs.View.{term_view}
use Rattle.sym_model.specs.View.{chunk_view}
use Rattle.sym_chunks.specs.ByPlace.{all_at}
use Rattle.sym_chunks.proofs.places.all_at.Given as goal

abbrev pub invariant-loop-chunk : goal.invariant-loop-chunk
invariant-loop-chunk g l =
    all_at (alternatives_view l.alternatives) (g.T.ChunkTest.says l.test) (term_view l.place) (map chunk_view (drop l.chunk-index l.chunks))
    ≡ all_at always (g.T.ChunkTest.says l.test) (term_view l.place) (map chunk_view l.chunks)
