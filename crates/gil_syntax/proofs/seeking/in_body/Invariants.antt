use Rattle.std.proofs.Common.{◌≡◌, map, take, false}
use Rattle.std.specs.List.{list_any}
use Rattle.gil_syntax.specs.View.{numbered_command_view}
use Rattle.gil_syntax.specs.Found.{stands_in_command}
use Rattle.gil_syntax.proofs.seeking.in_body.Given as goal

abbrev pub invariant-loop-numbered : goal.invariant-loop-numbered
invariant-loop-numbered g l =
    list_any (stands_in_command (g.S.Sought.is_node l.sought) (g.S.Sought.is_use l.sought)) (map numbered_command_view (take l.numbered-index l.numbered-items)) ≡ false
