use Rattle.std.proofs.Common.{map, ap, ◌∙◌}
use Rattle.pure_terms.specs.View.{term_view}
use Rattle.sym_chunks.specs.ByPlace.{all_there, all_by_place}
use Rattle.sym_model.specs.Alternatives.{alternatives_view, both}
use Rattle.sym_model.proofs.Stepping.{all_step}
use Rattle.sym_model.specs.View.{chunk_view}
use Rattle.sym_chunks.proofs.places.all_by_place.Goals as goal

pub loop-place-preserved : goal.loop-place-preserved
loop-place-preserved g c =
    all_step term_view (all_there (term_view c.args.l.now) (g.T.ChunkTest.says c.args.test.now) (map chunk_view c.args.chunks.now)) c.as_slice-place-items.result.now c.loop-place.place-index c.place-item.result
    (alternatives_view c.loop-place.alternatives) (alternatives_view c.in_ok-alternatives-2.alternatives) (all_by_place (term_view c.args.l.now) (g.T.ChunkTest.says c.args.test.now) (map chunk_view c.args.chunks.now))
    c.loop-place-test.true c.place-item.is c.loop-place.invariant (c.in_ok-alternatives-2.ensures ∙ ap (both (alternatives_view c.loop-place.alternatives)) c.in_ok-all_there.ensures)
