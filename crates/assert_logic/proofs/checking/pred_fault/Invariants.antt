use Rattle.std.proofs.Common.{◌≡◌, map, drop}
use Rattle.gil_syntax.specs.View.{assertion_view, pred_def_view}
use Rattle.assert_logic.specs.Modes.{first_fault, case_fault}
use Rattle.assert_logic.proofs.checking.pred_fault.Given as goal

abbrev pub invariant-loop-items : goal.invariant-loop-items
invariant-loop-items l =
    first_fault (case_fault l.memory (pred_def_view l.pred)) (map assertion_view l.items-items)
    ≡ first_fault (case_fault l.memory (pred_def_view l.pred)) (map assertion_view (drop l.items-index l.items-items))
