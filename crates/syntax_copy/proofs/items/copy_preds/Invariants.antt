use Rattle.std.proofs.Common.{◌≡◌, take, map}
use Rattle.gil_syntax.specs.View.{pred_def_view}
use Rattle.syntax_copy.proofs.items.copy_preds.Given as goal

abbrev pub invariant-loop-pred : goal.invariant-loop-pred
invariant-loop-pred l = map pred_def_view l.list ≡ map pred_def_view (take l.pred-index l.preds)
