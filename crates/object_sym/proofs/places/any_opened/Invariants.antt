use Rattle.std.proofs.Common.{◌≡◌, take, map}
use Rattle.object_sym.specs.Places.{opened_at}
use Rattle.pure_terms.specs.View.{term_view}
use Rattle.sym_model.specs.Alternatives.{alternatives_view, any}
use Rattle.sym_model.specs.View.{chunk_view}
use Rattle.object_sym.proofs.places.any_opened.Given as goal

abbrev pub invariant-loop-chunk : goal.invariant-loop-chunk
invariant-loop-chunk l = alternatives_view l.alternatives ≡ any (opened_at (term_view l.l)) (map chunk_view (take l.chunk-index l.chunks))
