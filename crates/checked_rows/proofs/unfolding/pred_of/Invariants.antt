use Rattle.std.proofs.Common.{◌≡◌, map, drop}
use Rattle.gil_syntax.specs.Programs.{find_pred}
use Rattle.gil_syntax.specs.View.{pred_def_view}
use Rattle.checked_rows.proofs.unfolding.pred_of.Given as goal

abbrev pub invariant-loop-pred : goal.invariant-loop-pred
invariant-loop-pred l = find_pred (map pred_def_view l.pred-items) l.name ≡ find_pred (map pred_def_view (drop l.pred-index l.pred-items)) l.name
