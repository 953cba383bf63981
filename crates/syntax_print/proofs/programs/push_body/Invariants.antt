use Rattle.std.proofs.Common.{◌≡◌, ◌++◌, map, take, string_bytes}
use Rattle.std.specs.List.{flat_map}
use Rattle.gil_syntax.specs.View.{numbered_command_view}
use Rattle.syntax_print.specs.Programs.{printed_statement}
use Rattle.syntax_print.proofs.programs.push_body.Given as goal

abbrev pub invariant-loop-numbered : goal.invariant-loop-numbered
invariant-loop-numbered l = string_bytes l.out ≡ string_bytes l.fn.out ++ flat_map printed_statement (map numbered_command_view (take l.numbered-index l.body))
