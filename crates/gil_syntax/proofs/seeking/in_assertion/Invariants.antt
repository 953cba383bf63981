use Rattle.std.proofs.Common.{◌≡◌, take, false}
use Rattle.gil_syntax.specs.View.{assertion_view}
use Rattle.gil_syntax.specs.Found.{stands_in_assertion}
use Rattle.gil_syntax.proofs.seeking.in_assertion.Given as goal

abbrev pub invariant-loop-item : goal.invariant-loop-item
invariant-loop-item g l =
    stands_in_assertion (g.S.Sought.is_node l.sought) (g.S.Sought.is_use l.sought) (assertion_view (take l.item-index l.item-items)) ≡ false
