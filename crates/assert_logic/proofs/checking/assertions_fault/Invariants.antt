use Rattle.std.proofs.Common.{◌≡◌, map, drop}
use Rattle.gil_syntax.specs.View.{assertion_view}
use Rattle.assert_logic.specs.Modes.{first_fault, assertion_fault}
use Rattle.assert_logic.specs.ModesView.{scope_view}
use Rattle.assert_logic.proofs.checking.assertions_fault.Given as goal

abbrev pub invariant-loop-items : goal.invariant-loop-items
invariant-loop-items l =
    first_fault (assertion_fault l.memory (scope_view l.scope)) (map assertion_view l.items-items)
    ≡ first_fault (assertion_fault l.memory (scope_view l.scope)) (map assertion_view (drop l.items-index l.items-items))
