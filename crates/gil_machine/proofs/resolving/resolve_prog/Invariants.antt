use Rattle.std.proofs.Common.{◌≡◌, map, take}
use Rattle.std.specs.List.{All}
use Rattle.gil_syntax.specs.Program.{prog_view}
use Rattle.gil_syntax.specs.View.{proc_view}
use Rattle.gil_machine.specs.ResolvedWhole.{IsResolvedProc}
use Rattle.gil_machine.proofs.resolving.resolve_prog.Given as goal

abbrev pub invariant-loop-place : goal.invariant-loop-place
invariant-loop-place l = record {
  seen : map (λ q. proc_view q.proc.now) l.procs ≡ take l.place (prog_view l.prog).procs;
  resolved : All IsResolvedProc l.procs;
}
