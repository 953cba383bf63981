use Rattle.std.proofs.Common.{◌++◌, refl}
use Rattle.std.specs.List.{remove}
use Rattle.pure_terms.specs.View.{term_view}
use Rattle.sym_chunks.specs.Keys.{at_key}
use Rattle.sym_chunks.specs.View.{way_view, ways_view}
use Rattle.sym_chunks.specs.Walking.{way_of, ways_from}
use Rattle.sym_model.specs.Alternatives.{both}
use Rattle.sym_model.specs.View.{frag_view, chunk_view, sub_view}
use Rattle.sym_chunks.proofs.Loops.{from_on}
use Rattle.sym_chunks.proofs.walking.take_somewhere.Goals as goal

pub loop-index-preserved : goal.loop-index-preserved
loop-index-preserved c =
    let w = way_view c.args.way.now in
    let l = term_view c.args.l.now in
    let s = sub_view c.args.s.now in
    from_on chunk_view (ways_from l s w) (λ i d. way_of (both w.when (at_key l s d)) (remove w.left i)) (λ i d ds. refl)
    c.as_slice-chunk-items.result.now c.loop-index.index c.chunk-item.result
    (ways_view c.loop-index.ways) (ways_view c.in_ok-ways.ways) (ways_view c.args.ways ++ ways_from l s w 0 (frag_view c.args.way.now.left))
    c.loop-index-test.true c.chunk-item.is c.loop-index.invariant c.in_ok-ways.ensures
