use Rattle.std.proofs.Common.{◌≡◌, ◌++◌, map, take, string_bytes}
use Rattle.std.specs.List.{flat_map}
use Rattle.gil_syntax.specs.View.{pred_def_view}
use Rattle.syntax_print.specs.Programs.{printed_pred}
use Rattle.gil_print.proofs.printing.push_preds.Given as goal

abbrev pub invariant-loop-pred : goal.invariant-loop-pred
invariant-loop-pred l = string_bytes l.out ≡ string_bytes l.fn.out ++ flat_map printed_pred (map pred_def_view (take l.pred-index l.preds))
