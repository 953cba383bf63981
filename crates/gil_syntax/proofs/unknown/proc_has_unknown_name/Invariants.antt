use Rattle.std.proofs.Common.{◌≡◌, map, take, false}
use Rattle.std.specs.List.{list_any}
use Rattle.gil_syntax.specs.View.{numbered_command_view}
use Rattle.gil_syntax.specs.ByName.{parts_of}
use Rattle.gil_syntax.specs.Names.{has_name}
use Rattle.gil_syntax.specs.Found.{stands_in_command}
use Rattle.gil_syntax.specs.Sought.{is_undeclared, is_unknown_use, declared_by}
use Rattle.gil_syntax.proofs.unknown.proc_has_unknown_name.Given as goal

abbrev pub invariant-loop-numbered : goal.invariant-loop-numbered
invariant-loop-numbered l =
    list_any (λ c. stands_in_command (is_undeclared (declared_by (has_name l.declared) c.command)) (is_unknown_use (parts_of l.program)) c) (map numbered_command_view (take l.numbered-index l.numbered-items)) ≡ false
