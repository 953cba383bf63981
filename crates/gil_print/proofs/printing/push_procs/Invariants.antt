use Rattle.std.proofs.Common.{◌≡◌, ◌++◌, take, string_bytes}
use Rattle.std.specs.List.{flat_map}
use Rattle.gil_syntax.specs.Program.{prog_view}
use Rattle.syntax_print.specs.Programs.{printed_proc}
use Rattle.gil_print.proofs.printing.push_procs.Given as goal

abbrev pub invariant-loop-place : goal.invariant-loop-place
invariant-loop-place l = string_bytes l.out ≡ string_bytes l.fn.out ++ flat_map printed_proc (take l.place (prog_view l.prog).procs)
