use Rattle.std.proofs.Common.{◌≡◌, [], ◌∷◌, ◌++◌, map, take, Some, slice_get, sym, subst}
use Rattle.gil_values.proofs.Lists.{slice_get-read}
use Rattle.gil_syntax.specs.View.{assertion_view, pred_def_view}
use Rattle.sym_evaluation.specs.View.{store_view}
use Rattle.sym_model.proofs.ListLaws.{each_at}
use Rattle.sym_states.specs.View.{state_view}
use Rattle.sym_matching.proofs.Lists.{taken_next}
use Rattle.footprint.specs.Assertions.{cases_at}
use Rattle.footprint.specs.Cases.{StopsIn}
use Rattle.footprint.specs.Coming.{RetryComesFrom}
use Rattle.footprint.specs.Plainly.{IsPlainMemory}
use Rattle.footprint.specs.Spreading.{Gathers}
use Rattle.footprint.specs.View.{stop_view, stops_view, leaves_view}
use Rattle.footprint.specs.Whole.{TriedAt}
use Rattle.footprint.proofs.Parts.{gathers_more}
use Rattle.footprint.proofs.whole.try_stops.Goals as goal

pub try_post-requires-clause-conds : goal.try_post-requires-clause-conds
try_post-requires-clause-conds g c =
    let items = c.as_slice-stop-items.result.now in
    let s = state_view c.args.state.now in
    each_at (StopsIn s.vars) (stops_view c.args.stopped.now) c.loop-stop.stop-index (stop_view c.stop-item.result) c.requires.each
    (subst (λ xs. slice_get (stops_view xs) c.loop-stop.stop-index ≡ Some (stop_view c.stop-item.result)) c.as_slice-stop-items.ensures
    (slice_get-read stop_view items c.loop-stop.stop-index c.stop-item.result c.loop-stop-test.true c.stop-item.is))

pub loop-stop-preserved : goal.loop-stop-preserved
loop-stop-preserved g c =
    let items = c.as_slice-stop-items.result.now in
    let i = c.loop-stop.stop-index in
    let P = TriedAt g.M.SymMemory.stands g.M.SymMemory.terms g.M.SymMemory.kept (IsPlainMemory g.M.Local.LocalMemory.memory g.M.SymMemory.keeps_plain g.M.SymMemory.terms) (cases_at (map pred_def_view c.args.preds.now) 1) c.args.scope.now (assertion_view c.args.post.now) (state_view c.args.state.now) (store_view c.args.start.now) in
    let Q = RetryComesFrom g.M.SymMemory.terms (map pred_def_view c.args.preds.now) c.args.scope.now (assertion_view c.args.post.now) (state_view c.args.state.now) (store_view c.args.start.now) in
    let stop = stop_view c.stop-item.result in
    record {
      gathers = subst (λ xs. Gathers P xs (leaves_view c.in_ok-leaves.leaves)) (sym (taken_next stop_view items i c.stop-item.result c.loop-stop-test.true c.stop-item.is))
          (subst (Gathers P (stops_view (take i items) ++ stop ∷ [])) (sym c.in_ok-leaves.ensures)
          (gathers_more P (stops_view (take i items)) stop (leaves_view c.loop-stop.leaves) (leaves_view c.in_ok-more.more) c.loop-stop.invariant.gathers c.in_ok-more.ensures.says));
      origin = subst (λ xs. Gathers Q xs (leaves_view c.in_ok-leaves.leaves)) (sym (taken_next stop_view items i c.stop-item.result c.loop-stop-test.true c.stop-item.is))
          (subst (Gathers Q (stops_view (take i items) ++ stop ∷ [])) (sym c.in_ok-leaves.ensures)
          (gathers_more Q (stops_view (take i items)) stop (leaves_view c.loop-stop.leaves) (leaves_view c.in_ok-more.more) c.loop-stop.invariant.origin c.in_ok-more.ensures.origin));
    }
