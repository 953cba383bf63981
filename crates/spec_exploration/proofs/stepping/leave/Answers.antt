use Rattle.std.proofs.Common.{length, sym, ap, ◌∙◌}
use Rattle.std.specs.Option.{option_map}
use Rattle.gil_syntax.specs.Program.{prog_view}
use Rattle.gil_syntax.specs.Programs.{find_proc}
use Rattle.gil_syntax.specs.View.{proc_view, spec_view}
use Rattle.addable_programs.proofs.AddableLaws.{programs_are_addable}
use Rattle.checked_runs.proofs.Readable.{names_length}
use Rattle.sym_beginning.proofs.StartLaws.{not_found}
use Rattle.spec_exploration.proofs.Steps.{params_there}
use Rattle.spec_exploration.proofs.stepping.leave.Goals as goal

pub unreachable-requires : goal.unreachable-requires
unreachable-requires g c =
    let p = prog_view c.args.prog.now in
    let memory = g.M.Local.LocalMemory.memory in
    let (q, (there, same)) = (programs_are_addable p memory c.args.prog.now.well_made c.args.prog.now.valid c.requires.modes).procs (spec_view c.args.spec.now) (spec_view c.args.spec.now).name c.requires.found in
    not_found (λ r. proc_view r.now) c.proc.result q (find_proc p.procs (spec_view c.args.spec.now).name) c.proc.ensures c.in_default.is there

pub end_row-requires-clause-count : goal.end_row-requires-clause-count
end_row-requires-clause-count g c =
    let p = prog_view c.args.prog.now in
    let memory = g.M.Local.LocalMemory.memory in
    let s = spec_view c.args.spec.now in
    let same = params_there p memory (programs_are_addable p memory c.args.prog.now.well_made c.args.prog.now.valid c.requires.modes) s c.requires.found (proc_view c.in-Some.proc.now)
    (sym c.proc.ensures ∙ ap (option_map (λ q. proc_view q.now)) c.in-Some.is) in
    c.requires.may.over.entry.as_many ∙ sym (names_length s.params) ∙ ap length (sym same)

pub end_row-requires-clause-params : goal.end_row-requires-clause-params
end_row-requires-clause-params g c =
    let p = prog_view c.args.prog.now in
    let memory = g.M.Local.LocalMemory.memory in
    params_there p memory (programs_are_addable p memory c.args.prog.now.well_made c.args.prog.now.valid c.requires.modes) (spec_view c.args.spec.now) c.requires.found (proc_view c.in-Some.proc.now)
    (sym c.proc.ensures ∙ ap (option_map (λ q. proc_view q.now)) c.in-Some.is)

pub end_row-requires-clause-posts : goal.end_row-requires-clause-posts
end_row-requires-clause-posts g c =
    let p = prog_view c.args.prog.now in
    let memory = g.M.Local.LocalMemory.memory in
    ((programs_are_addable p memory c.args.prog.now.well_made c.args.prog.now.valid c.requires.modes).specs (spec_view c.args.spec.now) (spec_view c.args.spec.now).name c.requires.found).posts

pub end_row-requires-clause-errors : goal.end_row-requires-clause-errors
end_row-requires-clause-errors g c =
    let p = prog_view c.args.prog.now in
    let memory = g.M.Local.LocalMemory.memory in
    ((programs_are_addable p memory c.args.prog.now.well_made c.args.prog.now.valid c.requires.modes).specs (spec_view c.args.spec.now) (spec_view c.args.spec.now).name c.requires.found).errors

pub end_row-requires-clause-cases : goal.end_row-requires-clause-cases
end_row-requires-clause-cases g c =
    let p = prog_view c.args.prog.now in
    (programs_are_addable p g.M.Local.LocalMemory.memory c.args.prog.now.well_made c.args.prog.now.valid c.requires.modes).preds
