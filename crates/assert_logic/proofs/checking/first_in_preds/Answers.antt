use Rattle.std.proofs.Common.{◌∙◌, below_more}
use Rattle.gil_syntax.specs.View.{pred_def_view}
use Rattle.assert_logic.specs.Modes.{pred_fault}
use Rattle.assert_logic.proofs.LoopLemmas.{at_place, past_all}
use Rattle.assert_logic.proofs.checking.first_in_preds.Goals as goal

pub returns-in-Some : goal.returns-in-Some
returns-in-Some c =
    (at_place pred_def_view (pred_fault c.args.memory) c.args.preds.now c.loop-place.place c.index-preds-place.result c.pred_fault.result c.loop-place-test.true c.index-preds-place.is c.pred_fault.ensures ∙ c.in-Some.is, c.loop-place.invariant)

pub loop-place-preserved : goal.loop-place-preserved
loop-place-preserved c = below_more _ _ c.loop-place.invariant
    (at_place pred_def_view (pred_fault c.args.memory) c.args.preds.now c.loop-place.place c.index-preds-place.result c.pred_fault.result c.loop-place-test.true c.index-preds-place.is c.pred_fault.ensures ∙ c.in_default.is)

pub returns : goal.returns
returns c = past_all pred_def_view (pred_fault c.args.memory) c.args.preds.now c.loop-place.place c.loop-place-test.false c.loop-place.invariant
