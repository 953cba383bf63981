-- An entry has no parameters, so its start is proper.
use Rattle.std.proofs.Common.{[], Some, sym, ap, subst, ◌∙◌}
use Rattle.gil_syntax.specs.Program.{prog_view}
use Rattle.gil_machine.specs.Run.{IsEntry, IsProperStart}
use Rattle.gil_machine.proofs.Entries.{is_entry, entry_starts}
use Rattle.gil_machine.proofs.running.run_entry.Goals as goal

pub run-requires-clause-starts : goal.run-requires-clause-starts
run-requires-clause-starts g c =
    let entry : IsEntry (prog_view c.args.prog.now) c.args.entry.now = is_entry (prog_view c.args.prog.now) c.args.entry.now (sym c.arity.ensures ∙ c.in-Some-eq0.is ∙ ap Some c.in-Some-eq0.field-0-test) in
    subst (λ args. IsProperStart (prog_view c.args.prog.now) g.M.LocalMemory.memory c.args.entry.now args (g.M.LocalMemory.heap c.in-Ok.memory) 0) (sym c.new-args.ensures)
    (subst (λ h. IsProperStart (prog_view c.args.prog.now) g.M.LocalMemory.memory c.args.entry.now [] h 0) (sym c.in-Ok.ensures)
    (entry_starts (prog_view c.args.prog.now) g.M.LocalMemory.memory c.args.entry.now entry))
