use Rattle.std.proofs.Common.{◌≡◌, map, take, true}
use Rattle.std.specs.List.{list_all}
use Rattle.gil_syntax.specs.Simple.{is_simple_command}
use Rattle.gil_syntax.specs.View.{numbered_command_view}
use Rattle.gil_syntax.proofs.simple.has_simple_commands.Given as goal

abbrev pub invariant-loop-numbered : goal.invariant-loop-numbered
invariant-loop-numbered l = list_all (λ c. is_simple_command c.command) (map numbered_command_view (take l.numbered-index l.numbered-items)) ≡ true
