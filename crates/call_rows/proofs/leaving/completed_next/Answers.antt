use Rattle.std.proofs.Common.{◌≡◌, inl, inr, refl, sym, subst}
use Rattle.gil_syntax.specs.Program.{prog_view}
use Rattle.gil_values.specs.View.{values_view}
use Rattle.pure_terms.specs.Meaning.{AreOver, IsUnsatisfiable}
use Rattle.pure_terms.specs.View.{atoms_view, term_view}
use Rattle.sym_paths.proofs.AskedFragments.{each_over_all}
use Rattle.sym_paths.specs.Asking.{IsOutside, IsRightly, IsSolution}
use Rattle.sym_paths.specs.AskingView.{satisfiability_view}
use Rattle.sym_states.proofs.Values.{ok_to}
use Rattle.sym_states.specs.View.{state_view}
use Rattle.checked_paths.specs.declared.nexts.FaultKind.{FaultKind}
use Rattle.checked_paths.specs.View.{checking_view, entry_view, next_view}
use Rattle.checked_rows.specs.Doubts.{beyond, IsDoubtNext}
use Rattle.checked_rows.specs.States.{with_state}
use Rattle.call_rows.specs.Leaving.{GoesOnAfter, IsCompleted, MayComplete}
use Rattle.call_rows.proofs.LeavingLaws.{numbered_may}
use Rattle.checked_rows.specs.Asking.{AddsTo}
use Rattle.call_rows.specs.Asked.{AsksCompleting}
use Rattle.call_rows.proofs.AskedLaws.{doubt_adds, no_more, numbered_conds}
use Rattle.call_rows.proofs.leaving.completed_next.Goals as goal

pub ask-requires : goal.ask-requires
ask-requires g c = subst (AreOver c.args.state.vars) (sym c.atoms.ensures) (each_over_all c.args.state.vars (state_view c.args.state).conds c.requires.may.over.conds)

pub next_after-requires-clause-may : goal.next_after-requires-clause-may
next_after-requires-clause-may g c =
    let terms = g.M.SymMemory.terms in
    let e = entry_view c.args.spec.now c.args.entered.now in
    let given = (checking_view c.args.checking.now).path.given in
    let t = term_view c.args.term.now in
    subst (MayComplete terms e given t) (sym c.in_ok-state-in-Satisfiable.ensures) (numbered_may terms e given t (state_view c.args.state) c.args.choice c.requires.may)

pub returns-in_ok-state-in-Satisfiable-clause-answer : goal.returns-in_ok-state-in-Satisfiable-clause-answer
returns-in_ok-state-in-Satisfiable-clause-answer g c =
    let p = prog_view c.args.prog.now in
    let stands = g.M.SymMemory.stands in
    let terms = g.M.SymMemory.terms in
    let e = entry_view c.args.spec.now c.args.entered.now in
    let y = checking_view c.args.checking.now in
    let here = c.args.here.now in
    let t = term_view c.args.term.now in
    let s = state_view c.args.state in
    let v = values_view c.in-Satisfiable.field-0 in
    let told = subst (λ r. IsRightly c.args.state.vars (atoms_view c.atoms.result.now) (satisfiability_view r)) c.in-Satisfiable.is c.in_ok-ask.ensures in
    let met : IsSolution s.vars s.conds v = subst (λ cs. IsSolution s.vars cs v) c.atoms.ensures told in
    ok_to c.next_after.result (λ n. GoesOnAfter p stands terms e y here c.args.how t (state_view c.in_ok-state-in-Satisfiable.state) (next_view n)) (λ n. IsCompleted p stands terms e y here c.args.how c.args.choice t s (next_view n))
    (λ n goes. inl ((v, met.meets), met.no_form, subst (λ r. GoesOnAfter p stands terms e y here c.args.how t r (next_view n)) c.in_ok-state-in-Satisfiable.ensures goes)) c.next_after.ensures.answer

pub returns-in-Unsatisfiable-clause-answer : goal.returns-in-Unsatisfiable-clause-answer
returns-in-Unsatisfiable-clause-answer g c =
    let s = state_view c.args.state in
    let told = subst (λ r. IsRightly c.args.state.vars (atoms_view c.atoms.result.now) (satisfiability_view r)) c.in-Unsatisfiable.is c.in_ok-ask.ensures in
    let unsat : IsUnsatisfiable s.vars s.conds = subst (IsUnsatisfiable c.args.state.vars) c.atoms.ensures told in
    inr (inl (refl, unsat))

pub returns-in_ok-state-in-Undecided-clause-answer : goal.returns-in_ok-state-in-Undecided-clause-answer
returns-in_ok-state-in-Undecided-clause-answer g c =
    let p = prog_view c.args.prog.now in
    let stands = g.M.SymMemory.stands in
    let terms = g.M.SymMemory.terms in
    let e = entry_view c.args.spec.now c.args.entered.now in
    let y = checking_view c.args.checking.now in
    let here = c.args.here.now in
    let t = term_view c.args.term.now in
    let s = state_view c.args.state in
    let told = subst (λ r. IsRightly c.args.state.vars (atoms_view c.atoms.result.now) (satisfiability_view r)) c.in-Undecided.is c.in_ok-ask.ensures in
    let outside : IsOutside s.conds c.in-Undecided.reason = subst (λ cs. IsOutside cs c.in-Undecided.reason) c.atoms.ensures told in
    ok_to c.undecided_next.result (λ n. IsDoubtNext FaultKind.CallPrecondition here (with_state y.path (state_view c.in_ok-state-in-Undecided.state)) (beyond (state_view c.in_ok-state-in-Undecided.state).conds c.in-Undecided.reason) (next_view n))
    (λ n. IsCompleted p stands terms e y here c.args.how c.args.choice t s (next_view n))
    (λ n doubt. inr (inr (c.in-Undecided.reason, (outside, subst (λ r. IsDoubtNext FaultKind.CallPrecondition here (with_state y.path r) (beyond r.conds c.in-Undecided.reason) (next_view n)) c.in_ok-state-in-Undecided.ensures doubt)))) c.undecided_next.ensures

pub returns-in_ok-state-in-Satisfiable-clause-asked : goal.returns-in_ok-state-in-Satisfiable-clause-asked
returns-in_ok-state-in-Satisfiable-clause-asked g c =
    let Own = AsksCompleting (prog_view c.args.prog.now) (entry_view c.args.spec.now c.args.entered.now) c.args.how in
    let s = state_view c.args.state in
    let r = state_view c.in_ok-state-in-Satisfiable.state in
    let same : r.conds ≡ s.conds = numbered_conds s r c.args.choice c.in_ok-state-in-Satisfiable.ensures in
    ok_to c.next_after.result (λ n. AddsTo Own r.conds (next_view n)) (λ n. AddsTo Own s.conds (next_view n)) (λ n adds. subst (λ cs. AddsTo Own cs (next_view n)) same adds) c.next_after.ensures.asked

pub returns-in_ok-state-in-Undecided-clause-asked : goal.returns-in_ok-state-in-Undecided-clause-asked
returns-in_ok-state-in-Undecided-clause-asked g c =
    let Own = AsksCompleting (prog_view c.args.prog.now) (entry_view c.args.spec.now c.args.entered.now) c.args.how in
    let y = checking_view c.args.checking.now in
    let here = c.args.here.now in
    let s = state_view c.args.state in
    let r = state_view c.in_ok-state-in-Undecided.state in
    let same : r.conds ≡ s.conds = numbered_conds s r c.args.choice c.in_ok-state-in-Undecided.ensures in
    ok_to c.undecided_next.result (λ n. IsDoubtNext FaultKind.CallPrecondition here (with_state y.path r) (beyond r.conds c.in-Undecided.reason) (next_view n)) (λ n. AddsTo Own s.conds (next_view n))
    (λ n doubt. subst (λ cs. AddsTo Own cs (next_view n)) same (doubt_adds Own FaultKind.CallPrecondition here (with_state y.path r) (beyond r.conds c.in-Undecided.reason) (next_view n) doubt (no_more Own r.conds))) c.undecided_next.ensures
