-- An entry has no parameters, so its start is proper.
use Rattle.std.proofs.Common.{[], sym, subst}
use Rattle.gil_syntax.specs.Program.{prog_view}
use Rattle.gil_values.specs.View.{values_view}
use Rattle.gil_machine.specs.Held.{held_run_of}
use Rattle.gil_machine.specs.Run.{IsProperStart}
use Rattle.gil_machine.specs.Standing.{IsEndOf}
use Rattle.gil_machine.proofs.Entries.{entry_starts}
use Rattle.gillian_core.proofs.running.run_answer.Goals as goal

pub run-end-requires-clause-starts : goal.run-end-requires-clause-starts
run-end-requires-clause-starts g c =
    subst (λ args. IsProperStart (prog_view c.args.prog.now) g.M.LocalMemory.memory c.args.entry.now args (g.M.LocalMemory.heap c.in_ok-heap.heap) 0)
    (sym c.new-args.ensures)
    (subst (λ h. IsProperStart (prog_view c.args.prog.now) g.M.LocalMemory.memory c.args.entry.now [] h 0) (sym c.in_ok-heap.ensures)
    (entry_starts (prog_view c.args.prog.now) g.M.LocalMemory.memory c.args.entry.now c.requires))

pub returns : goal.returns
returns g c =
    let p = prog_view c.args.prog.now in
    let inputs = values_view c.args.inputs.now in
    c.in_ok-answer.ensures _
    (subst (λ h. IsEndOf g.M.LocalMemory.heap c.run-end.result (held_run_of p g.M.LocalMemory.actions c.args.entry.now [] h 0 inputs c.args.bound.steps))
    c.in_ok-heap.ensures
    (subst (λ args. IsEndOf g.M.LocalMemory.heap c.run-end.result
    (held_run_of p g.M.LocalMemory.actions c.args.entry.now args (g.M.LocalMemory.heap c.in_ok-heap.heap) 0 inputs c.args.bound.steps))
    c.new-args.ensures c.run-end.ensures))
