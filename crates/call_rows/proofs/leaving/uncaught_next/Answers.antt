use Rattle.std.proofs.Common.{length, map, sym, ap, subst, ◌∙◌}
use Rattle.std.specs.Option.{option_map}
use Rattle.gil_syntax.specs.Program.{prog_view}
use Rattle.gil_syntax.specs.Pure.{PureProc}
use Rattle.gil_syntax.specs.View.{assertion_view, proc_view, spec_view}
use Rattle.addable_programs.proofs.AddableLaws.{programs_are_addable}
use Rattle.pure_terms.specs.View.{term_view}
use Rattle.checked_runs.proofs.Readable.{names_length}
use Rattle.sym_model.proofs.ListLaws.{not_none, same_some}
use Rattle.sym_paths.specs.View.{path_view}
use Rattle.sym_states.specs.View.{facts_view, state_view}
use Rattle.checked_paths.specs.View.{entry_view, next_view}
use Rattle.checked_paths.proofs.Exact.{if_ok_both as both_ok}
use Rattle.checked_rows.specs.Ending.{Finishes, FinishesExactly}
use Rattle.call_rows.specs.Leaving.{EndsEntry}
use Rattle.call_rows.proofs.LeavingLaws.{ends_over}
use Rattle.sym_states.proofs.Values.{ok_to}
use Rattle.checked_rows.specs.Asking.{AddsTo, AsksEntryEnd}
use Rattle.checked_rows.proofs.StateLaws.{state_conds}
use Rattle.call_rows.proofs.leaving.uncaught_next.Goals as goal

pub unreachable-requires : goal.unreachable-requires
unreachable-requires g c =
    let p = prog_view c.args.prog.now in
    let s = spec_view c.args.spec.now in
    let (q, (there, same)) = (programs_are_addable p g.M.Local.LocalMemory.memory c.args.prog.now.well_made c.args.prog.now.valid c.requires.modes).procs s s.name c.requires.found in
    not_none (sym (ap (option_map (λ q. proc_view q.now)) c.in_default.is) ∙ c.proc.ensures ∙ there)

pub finish-requires-clause-count : goal.finish-requires-clause-count
finish-requires-clause-count g c =
    let p = prog_view c.args.prog.now in
    let s = spec_view c.args.spec.now in
    let (r, (there, same)) = (programs_are_addable p g.M.Local.LocalMemory.memory c.args.prog.now.well_made c.args.prog.now.valid c.requires.modes).procs s s.name c.requires.found in
    let params = ap (λ (x : PureProc). x.params) (same_some (sym (sym c.proc.ensures ∙ ap (option_map (λ q. proc_view q.now)) c.in-Some.is) ∙ there)) ∙ same in
    c.requires.over.entry.as_many ∙ sym (names_length s.params) ∙ ap length (sym params)

pub finish-requires-clause-params : goal.finish-requires-clause-params
finish-requires-clause-params g c =
    let p = prog_view c.args.prog.now in
    let memory = g.M.Local.LocalMemory.memory in
    let s = spec_view c.args.spec.now in
    let (r, (there, same)) = (programs_are_addable p memory c.args.prog.now.well_made c.args.prog.now.valid c.requires.modes).procs s s.name c.requires.found in
    ap (λ (x : PureProc). x.params) (same_some (sym (sym c.proc.ensures ∙ ap (option_map (λ q. proc_view q.now)) c.in-Some.is) ∙ there)) ∙ same

pub finish-requires-clause-over : goal.finish-requires-clause-over
finish-requires-clause-over g c =
    ends_over g.M.SymMemory.stands g.M.SymMemory.terms (entry_view c.args.spec.now c.args.entered.now) (term_view c.args.term.now) (facts_view c.args.preds.now) (path_view c.args.path.now) (state_view c.in_ok-state.state) c.in_ok-state.ensures c.requires.over

pub finish-requires-clause-may : goal.finish-requires-clause-may
finish-requires-clause-may g c =
    let p = prog_view c.args.prog.now in
    ((programs_are_addable p g.M.Local.LocalMemory.memory c.args.prog.now.well_made c.args.prog.now.valid c.requires.modes).specs (spec_view c.args.spec.now) (spec_view c.args.spec.now).name c.requires.found).errors

pub finish-requires-clause-cases : goal.finish-requires-clause-cases
finish-requires-clause-cases g c =
    let p = prog_view c.args.prog.now in
    (programs_are_addable p g.M.Local.LocalMemory.memory c.args.prog.now.well_made c.args.prog.now.valid c.requires.modes).preds

pub returns-clause-answer : goal.returns-clause-answer
returns-clause-answer g c =
    let p = prog_view c.args.prog.now in
    let stands = g.M.SymMemory.stands in
    let e = entry_view c.args.spec.now c.args.entered.now in
    let t = term_view c.args.term.now in
    let q = state_view c.in_ok-state.state in
    let posts = map assertion_view c.args.spec.now.errors in
    let path = path_view c.args.path.now in
    both_ok (λ n. Finishes p stands e posts t q (next_view n)) (λ n. FinishesExactly p stands e posts t c.args.here.now path q (next_view n))
    (λ n. EndsEntry p stands g.M.SymMemory.terms e c.args.here.now (facts_view c.args.preds.now) t path (next_view n)) c.finish.result
    (λ n done exactly. (q, (c.in_ok-state.ensures, done, exactly))) c.finish.ensures.next c.finish.ensures.exact

pub returns-clause-asked : goal.returns-clause-asked
returns-clause-asked g c =
    let p = prog_view c.args.prog.now in
    let e = entry_view c.args.spec.now c.args.entered.now in
    let q = state_view c.in_ok-state.state in
    let Own = AsksEntryEnd p e (spec_view c.args.spec.now).errors in
    let path = path_view c.args.path.now in
    ok_to c.finish.result (λ n. AddsTo Own q.conds (next_view n)) (λ n. AddsTo Own path.conds (next_view n))
    (λ n adds. subst (λ cs. AddsTo Own cs (next_view n)) (state_conds g.M.SymMemory.stands g.M.SymMemory.terms path (facts_view c.args.preds.now) q c.in_ok-state.ensures) adds) c.finish.ensures.asked
