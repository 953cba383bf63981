-- The program over slots is that program.
use Rattle.std.proofs.Common.{sym, subst}
use Rattle.gil_values.specs.View.{values_view}
use Rattle.gil_syntax.specs.Program.{prog_view}
use Rattle.gil_machine.specs.Held.{held_run_of}
use Rattle.gil_machine.specs.Run.{IsProperStart}
use Rattle.gil_machine.specs.Standing.{IsEndOf}
use Rattle.gil_machine.proofs.running.run.Goals as goal

pub run_resolved-requires-clause-starts : goal.run_resolved-requires-clause-starts
run_resolved-requires-clause-starts g c =
    subst (λ prog. IsProperStart (prog_view prog) g.M.LocalMemory.memory c.args.proc.now (values_view c.args.args) (g.M.LocalMemory.heap c.args.memory) c.args.counter) (sym c.in-Ok.ensures.prog) c.requires.starts

pub returns-in-Ok : goal.returns-in-Ok
returns-in-Ok g c =
    subst (λ prog. IsEndOf g.M.LocalMemory.heap c.run_resolved.result
    (held_run_of (prog_view prog) g.M.LocalMemory.actions c.args.proc.now (values_view c.args.args) (g.M.LocalMemory.heap c.args.memory) c.args.counter (values_view c.args.inputs.now) c.args.bound)) c.in-Ok.ensures.prog c.run_resolved.ensures
