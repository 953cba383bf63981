use Rattle.std.proofs.Common.{◌≡◌, take, map}
use Rattle.sym_model.specs.Alternatives.{alternatives_view}
use Rattle.pure_terms.specs.View.{term_view}
use Rattle.sym_model.specs.View.{chunk_view}
use Rattle.sym_chunks.specs.ByPlace.{any_at}
use Rattle.sym_chunks.proofs.places.any_at.Given as goal

abbrev pub invariant-loop-chunk : goal.invariant-loop-chunk
invariant-loop-chunk g l = alternatives_view l.alternatives ≡ any_at (term_view l.l) (g.T.ChunkTest.says l.test) (map chunk_view (take l.chunk-index l.chunks))
