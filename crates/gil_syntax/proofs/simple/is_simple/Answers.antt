use Rattle.std.proofs.Common.{sym, arith}
use Rattle.std.specs.List.{list_all}
use Rattle.gil_syntax.specs.Simple.{is_simple_command}
use Rattle.gil_syntax.specs.Program.{prog_view}
use Rattle.gil_syntax.proofs.SimpleLemmas.{passes_more, fails_at}
use Rattle.gil_syntax.proofs.simple.is_simple.Goals as goal

pub returns-then-not-is_simple_at : goal.returns-then-not-is_simple_at
returns-then-not-is_simple_at c = sym (fails_at (λ q. list_all (λ d. is_simple_command d.command) q.body) (prog_view c.args.prog.now).procs c.loop-place.place c.if-not-is_simple_at.ensures)

pub loop-place-preserved : goal.loop-place-preserved
loop-place-preserved c = passes_more (λ q. list_all (λ d. is_simple_command d.command) q.body) (prog_view c.args.prog.now).procs c.loop-place.place (omega arith) c.loop-place.invariant c.if-not-is_simple_at.ensures
