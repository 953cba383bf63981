use Rattle.std.proofs.Common.{◌≡◌, map, take, false}
use Rattle.std.specs.List.{list_any}
use Rattle.gil_syntax.specs.View.{assertion_view}
use Rattle.gil_syntax.specs.Found.{stands_in_assertion}
use Rattle.gil_syntax.proofs.seeking.in_assertions.Given as goal

abbrev pub invariant-loop-items : goal.invariant-loop-items
invariant-loop-items g l =
    list_any (stands_in_assertion (g.S.Sought.is_node l.sought) (g.S.Sought.is_use l.sought)) (map assertion_view (take l.items-index l.items-items)) ≡ false
