use Rattle.std.proofs.Common.{sym, ◌∙◌}
use Rattle.pure_terms.specs.View.{term_view}
use Rattle.sym_chunks.specs.View.{cases_view, way_view, ways_view}
use Rattle.sym_model.specs.View.{frag_view}
use Rattle.block_sym.proofs.Loops.{no_items, walk_ends, walk_on}
use Rattle.block_sym.proofs.freeing.take_cells.Goals as goal

pub returns-then-len-eq0 : goal.returns-then-len-eq0
returns-then-len-eq0 c =
    walk_ends (frag_view c.args.chunks.now) (term_view c.args.l.now) _ (ways_view c.loop-offset.walk.ways) (cases_view c.loop-offset.walk.cases) _
    (no_items way_view c.loop-offset.walk.ways (sym c.len.ensures ∙ c.if-len-eq0.true)) c.loop-offset.invariant

pub loop-offset-preserved : goal.loop-offset-preserved
loop-offset-preserved c =
    walk_on (frag_view c.args.chunks.now) (term_view c.args.l.now) c.loop-offset.offset c.args.count (ways_view c.loop-offset.walk.ways) (ways_view c.in_ok-walk.walk.ways) (cases_view c.loop-offset.walk.cases) (cases_view c.in_ok-walk.walk.cases) _
    c.loop-offset-test.true c.loop-offset.invariant c.in_ok-walk.ensures.cases c.in_ok-walk.ensures.ways
