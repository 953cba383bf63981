use Rattle.std.proofs.Common.{◌≡◌, map, take, false}
use Rattle.std.specs.List.{list_any}
use Rattle.gil_syntax.specs.Valid.{has_twice, lists_in_command}
use Rattle.gil_syntax.specs.View.{numbered_command_view}
use Rattle.gil_syntax.proofs.duplicates.proc_repeats_name.Given as goal

abbrev pub invariant-loop-numbered : goal.invariant-loop-numbered
invariant-loop-numbered l = list_any (λ c. list_any has_twice (lists_in_command c.command)) (map numbered_command_view (take l.numbered-index l.numbered-items)) ≡ false
