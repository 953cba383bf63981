use Rattle.std.proofs.Common.{◌≡◌, [], drop, map}
use Rattle.pure_terms.specs.View.{terms_view}
use Rattle.sym_model.specs.View.{chunk_view}
use Rattle.sym_chunks.specs.ByPlace.{places_from}
use Rattle.sym_chunks.proofs.places.places_of.Given as goal

abbrev pub invariant-loop-chunk : goal.invariant-loop-chunk
invariant-loop-chunk l = places_from (terms_view l.places) (map chunk_view (drop l.chunk-index l.chunks)) ≡ places_from [] (map chunk_view l.chunks)
