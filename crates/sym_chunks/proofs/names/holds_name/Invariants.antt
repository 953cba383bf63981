use Rattle.std.proofs.Common.{◌≡◌, drop, map}
use Rattle.sym_chunks.specs.NameTerms.{holds_name}
use Rattle.pure_terms.specs.View.{term_view}
use Rattle.sym_model.specs.View.{chunk_view}
use Rattle.sym_chunks.proofs.names.holds_name.Given as goal

abbrev pub invariant-loop-chunk : goal.invariant-loop-chunk
invariant-loop-chunk l = holds_name (term_view l.place) (map chunk_view (drop l.chunk-index l.chunks)) (term_view l.name) ≡ holds_name (term_view l.place) (map chunk_view l.chunks) (term_view l.name)
