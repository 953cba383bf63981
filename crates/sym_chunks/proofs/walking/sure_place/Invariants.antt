use Rattle.std.proofs.Common.{◌≡◌, drop, map}
use Rattle.pure_terms.specs.View.{term_view}
use Rattle.sym_model.specs.View.{chunk_view, sub_view}
use Rattle.sym_chunks.specs.Walking.{sure_place}
use Rattle.sym_chunks.proofs.walking.sure_place.Given as goal

abbrev pub invariant-loop-index : goal.invariant-loop-index
invariant-loop-index l = sure_place (term_view l.l) (sub_view l.s) l.index (map chunk_view (drop l.index l.chunks)) ≡ sure_place (term_view l.l) (sub_view l.s) 0 (map chunk_view l.chunks)
