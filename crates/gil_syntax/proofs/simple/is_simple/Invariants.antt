use Rattle.std.proofs.Common.{◌≡◌, take, true}
use Rattle.std.specs.List.{list_all}
use Rattle.gil_syntax.specs.Simple.{is_simple_command}
use Rattle.gil_syntax.specs.Program.{prog_view}
use Rattle.gil_syntax.proofs.simple.is_simple.Given as goal

abbrev pub invariant-loop-place : goal.invariant-loop-place
invariant-loop-place l = list_all (λ q. list_all (λ c. is_simple_command c.command) q.body) (take l.place (prog_view l.prog).procs) ≡ true
