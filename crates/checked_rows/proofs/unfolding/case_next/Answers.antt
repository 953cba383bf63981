use Rattle.std.proofs.Common.{inl, inr, refl, sym, subst}
use Rattle.gil_values.specs.View.{values_view}
use Rattle.pure_terms.specs.Meaning.{AreOver, IsUnsatisfiable}
use Rattle.pure_terms.specs.View.{atoms_view}
use Rattle.sym_paths.proofs.AskedFragments.{each_over_all}
use Rattle.sym_paths.specs.Asking.{IsOutside, IsRightly, IsSolution}
use Rattle.sym_paths.specs.AskingView.{satisfiability_view}
use Rattle.sym_states.proofs.Values.{ok_to}
use Rattle.sym_states.specs.View.{state_view}
use Rattle.checked_paths.specs.View.{checking_view, next_view}
use Rattle.checked_rows.specs.Folding.{GoesOnIn}
use Rattle.checked_rows.specs.Unfolding.{IsUnfoldedNext, IsUndecidedIn}
use Rattle.checked_paths.specs.declared.nexts.FaultKind.{FaultKind}
use Rattle.checked_rows.specs.Asked.{HasConds}
use Rattle.checked_rows.specs.States.{with_state}
use Rattle.checked_rows.proofs.AskedLaws.{beyond_same}
use Rattle.checked_rows.proofs.unfolding.case_next.Goals as goal

pub ask-requires : goal.ask-requires
ask-requires g c = subst (AreOver c.args.state.vars) (sym c.atoms.ensures) (each_over_all c.args.state.vars (state_view c.args.state).conds c.requires.over.conds)

pub returns-in_ok-next-in-Satisfiable-clause-unfolded : goal.returns-in_ok-next-in-Satisfiable-clause-unfolded
returns-in_ok-next-in-Satisfiable-clause-unfolded g c =
    let stands = g.M.SymMemory.stands in
    let terms = g.M.SymMemory.terms in
    let here = c.args.here.now in
    let x = checking_view c.args.checking.now in
    let s = state_view c.args.state in
    let v = values_view c.in-Satisfiable.field-0 in
    let told = subst (λ r. IsRightly c.args.state.vars (atoms_view c.atoms.result.now) (satisfiability_view r)) c.in-Satisfiable.is c.in_ok-ask.ensures in
    let met : IsSolution s.vars s.conds v = subst (λ cs. IsSolution s.vars cs v) c.atoms.ensures told in
    ok_to c.go_on_in.result _ (λ n. IsUnfoldedNext stands terms here x c.args.number s (next_view n))
    (λ n goes. inl (met.no_form, ((v, met.meets), subst (λ q. GoesOnIn stands terms x q q.facts (next_view n)) c.in_ok-next-in-Satisfiable.ensures goes))) c.go_on_in.ensures.goes

pub returns-in-Unsatisfiable-clause-unfolded : goal.returns-in-Unsatisfiable-clause-unfolded
returns-in-Unsatisfiable-clause-unfolded g c =
    let s = state_view c.args.state in
    let told = subst (λ r. IsRightly c.args.state.vars (atoms_view c.atoms.result.now) (satisfiability_view r)) c.in-Unsatisfiable.is c.in_ok-ask.ensures in
    let unsat : IsUnsatisfiable s.vars s.conds = subst (IsUnsatisfiable c.args.state.vars) c.atoms.ensures told in
    inr (inl (refl, unsat))

pub returns-in_ok-next-in-Undecided-clause-unfolded : goal.returns-in_ok-next-in-Undecided-clause-unfolded
returns-in_ok-next-in-Undecided-clause-unfolded g c =
    let here = c.args.here.now in
    let x = checking_view c.args.checking.now in
    let s = state_view c.args.state in
    let told = subst (λ r. IsRightly c.args.state.vars (atoms_view c.atoms.result.now) (satisfiability_view r)) c.in-Undecided.is c.in_ok-ask.ensures in
    let outside : IsOutside s.conds c.in-Undecided.reason = subst (λ cs. IsOutside cs c.in-Undecided.reason) c.atoms.ensures told in
    ok_to c.undecided_in.result _ (λ n. IsUnfoldedNext g.M.SymMemory.stands g.M.SymMemory.terms here x c.args.number s (next_view n))
    (λ n shown. inr (inr (c.in-Undecided.reason, (outside, subst (λ q. IsUndecidedIn here x q c.in-Undecided.reason (next_view n)) c.in_ok-next-in-Undecided.ensures shown)))) c.undecided_in.ensures

pub returns-in_ok-next-in-Satisfiable-clause-same : goal.returns-in_ok-next-in-Satisfiable-clause-same
returns-in_ok-next-in-Satisfiable-clause-same g c =
    let s = state_view c.args.state in
    ok_to c.go_on_in.result (λ n. HasConds (state_view c.in_ok-next-in-Satisfiable.next).conds (next_view n)) (λ n. HasConds s.conds (next_view n))
    (λ n same. subst (λ q. HasConds q.conds (next_view n)) c.in_ok-next-in-Satisfiable.ensures same) c.go_on_in.ensures.same

pub returns-in_ok-next-in-Undecided-clause-same : goal.returns-in_ok-next-in-Undecided-clause-same
returns-in_ok-next-in-Undecided-clause-same g c =
    let here = c.args.here.now in
    let x = checking_view c.args.checking.now in
    let s = state_view c.args.state in
    let q = state_view c.in_ok-next-in-Undecided.next in
    ok_to c.undecided_in.result (λ n. IsUndecidedIn here x q c.in-Undecided.reason (next_view n)) (λ n. HasConds s.conds (next_view n))
    (λ n shown. subst (λ r. HasConds r.conds (next_view n)) c.in_ok-next-in-Undecided.ensures (beyond_same FaultKind.FoldBody here (with_state x.path q) q.conds c.in-Undecided.reason (next_view n) shown)) c.undecided_in.ensures
