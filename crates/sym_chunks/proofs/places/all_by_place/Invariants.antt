use Rattle.std.proofs.Common.{◌≡◌, drop, map}
use Rattle.sym_model.specs.Alternatives.{alternatives_view, all_from}
use Rattle.pure_terms.specs.View.{term_view}
use Rattle.sym_model.specs.View.{chunk_view}
use Rattle.sym_chunks.specs.ByPlace.{all_there, all_by_place}
use Rattle.sym_chunks.proofs.places.all_by_place.Given as goal

abbrev pub invariant-loop-place : goal.invariant-loop-place
invariant-loop-place g l =
    all_from (alternatives_view l.alternatives) (all_there (term_view l.l) (g.T.ChunkTest.says l.test) (map chunk_view l.chunks)) (map term_view (drop l.place-index l.place-items))
    ≡ all_by_place (term_view l.l) (g.T.ChunkTest.says l.test) (map chunk_view l.chunks)
