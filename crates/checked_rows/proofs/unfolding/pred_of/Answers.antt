use Rattle.std.proofs.Common.{◌+◌, map, drop, cond, Some, sym, ap, ◌∙◌}
use Rattle.gil_syntax.specs.Programs.{find_pred}
use Rattle.gil_syntax.specs.View.{pred_def_view}
use Rattle.checked_rows.proofs.UnfoldLaws.{pred_next, pred_none}
use Rattle.checked_rows.proofs.unfolding.pred_of.Goals as goal

pub returns-then-eq : goal.returns-then-eq
returns-then-eq c =
    sym (ap (λ ds. find_pred (map pred_def_view ds) c.args.name.now) (sym c.as_slice-pred-items.ensures)
    ∙ (c.loop-pred.invariant ∙ pred_next c.args.name.now c.as_slice-pred-items.result.now c.loop-pred.pred-index c.pred-item.result c.loop-pred-test.true c.pred-item.is)
    ∙ ap (λ b. cond b (Some (pred_def_view c.pred-item.result)) (find_pred (map pred_def_view (drop (c.loop-pred.pred-index + 1) c.as_slice-pred-items.result.now)) c.args.name.now)) (sym c.eq.ensures ∙ c.if-eq.true))

pub loop-pred-preserved : goal.loop-pred-preserved
loop-pred-preserved c =
    (c.loop-pred.invariant ∙ pred_next c.args.name.now c.as_slice-pred-items.result.now c.loop-pred.pred-index c.pred-item.result c.loop-pred-test.true c.pred-item.is)
    ∙ ap (λ b. cond b (Some (pred_def_view c.pred-item.result)) (find_pred (map pred_def_view (drop (c.loop-pred.pred-index + 1) c.as_slice-pred-items.result.now)) c.args.name.now)) (sym c.eq.ensures ∙ c.if-eq.false)

pub returns : goal.returns
returns c =
    sym (ap (λ ds. find_pred (map pred_def_view ds) c.args.name.now) (sym c.as_slice-pred-items.ensures)
    ∙ (c.loop-pred.invariant ∙ pred_none c.args.name.now c.as_slice-pred-items.result.now c.loop-pred.pred-index c.loop-pred-test.false))
