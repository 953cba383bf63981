use Rattle.pure_terms.specs.View.{term_view}
use Rattle.sym_chunks.specs.View.{cases_view, way_view}
use Rattle.sym_chunks.specs.Walking.{missing_key}
use Rattle.sym_model.specs.View.{frag_view, sub_view}
use Rattle.sym_chunks.proofs.Loops.{flat_on}
use Rattle.sym_chunks.proofs.walking.with_missing.Goals as goal

pub loop-way-preserved : goal.loop-way-preserved
loop-way-preserved c =
    flat_on way_view (missing_key (frag_view c.args.chunks.now) (term_view c.args.l.now) (sub_view c.args.s.now)) c.as_slice-way-items.result.now c.loop-way.way-index c.way-item.result
    (cases_view c.args.cases) (cases_view c.loop-way.cases) (cases_view c.in_ok-cases.cases) c.loop-way-test.true c.way-item.is c.loop-way.invariant c.in_ok-cases.ensures
