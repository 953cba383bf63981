use Rattle.std.proofs.Common.{◌++◌, ◌∙◌}
use Rattle.std.specs.List.{flat_map}
use Rattle.pure_terms.specs.View.{term_view}
use Rattle.sym_chunks.specs.View.{cases_view, ways_view}
use Rattle.sym_chunks.specs.Walking.{missing_key, next_ways}
use Rattle.sym_model.specs.View.{frag_view}
use Rattle.record_sym.proofs.Loops.{walk_on}
use Rattle.record_sym.proofs.disposing.take_names.Goals as goal

pub loop-name-preserved : goal.loop-name-preserved
loop-name-preserved c =
    let cs = frag_view c.args.chunks.now in
    let l = term_view c.args.l.now in
    walk_on cs l c.args.names.now c.loop-name.name-index c.name-item.result (ways_view c.loop-name.walk.ways) (ways_view c.in_ok-walk.walk.ways) (cases_view c.loop-name.walk.cases) (cases_view c.in_ok-walk.walk.cases) _
    c.loop-name-test.true c.name-item.is c.loop-name.invariant
    (c.in_ok-walk.ensures.cases ∙ (λ i. cases_view c.loop-name.walk.cases ++ flat_map (missing_key cs l (c.in_ok-sub.ensures i)) (ways_view c.loop-name.walk.ways)))
    (c.in_ok-walk.ensures.ways ∙ (λ i. flat_map (next_ways l (c.in_ok-sub.ensures i)) (ways_view c.loop-name.walk.ways)))
