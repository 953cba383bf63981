use Rattle.std.proofs.Common.{inl, inr, refl, sym, subst, ◌∙◌, ◌≡◌}
use Rattle.gil_values.specs.View.{values_view}
use Rattle.pure_terms.specs.Meaning.{AreOver, IsUnsatisfiable}
use Rattle.pure_terms.specs.View.{atoms_view}
use Rattle.sym_paths.proofs.AskedFragments.{each_over_all}
use Rattle.sym_paths.specs.Asking.{IsOutside, IsRightly, IsSolution}
use Rattle.sym_paths.specs.AskingView.{satisfiability_view}
use Rattle.sym_states.proofs.Values.{ok_to}
use Rattle.sym_states.specs.View.{fact_view, state_view}
use Rattle.checked_paths.specs.declared.nexts.FaultKind.{FaultKind}
use Rattle.checked_paths.specs.View.{checking_view, next_view}
use Rattle.checked_rows.specs.Doubts.{beyond, IsDoubtNext}
use Rattle.checked_rows.specs.Folding.{IsFoldedNext}
use Rattle.checked_rows.specs.Asked.{HasConds}
use Rattle.checked_rows.proofs.AskedLaws.{beyond_same}
use Rattle.checked_rows.proofs.folding.folded_next.Goals as goal

pub ask-requires : goal.ask-requires
ask-requires g c = subst (AreOver c.args.state.vars) (sym c.atoms.ensures) (each_over_all c.args.state.vars (state_view c.args.state).conds c.requires.over.conds)

pub returns-in-Satisfiable-clause-folded : goal.returns-in-Satisfiable-clause-folded
returns-in-Satisfiable-clause-folded g c =
    let s = state_view c.args.state in
    let v = values_view c.in-Satisfiable.field-0 in
    let told = subst (λ r. IsRightly c.args.state.vars (atoms_view c.atoms.result.now) (satisfiability_view r)) c.in-Satisfiable.is c.in_ok-ask.ensures in
    let met : IsSolution s.vars s.conds v = subst (λ cs. IsSolution s.vars cs v) c.atoms.ensures told in
    ok_to c.go_on_with.result _ (λ n. IsFoldedNext g.M.SymMemory.stands g.M.SymMemory.terms c.args.here.now (checking_view c.args.checking.now) (fact_view c.args.fact) s (next_view n))
    (λ n goes. inl ((v, met.meets), goes)) c.go_on_with.ensures.goes

pub returns-in-Unsatisfiable-clause-folded : goal.returns-in-Unsatisfiable-clause-folded
returns-in-Unsatisfiable-clause-folded g c =
    let s = state_view c.args.state in
    let told = subst (λ r. IsRightly c.args.state.vars (atoms_view c.atoms.result.now) (satisfiability_view r)) c.in-Unsatisfiable.is c.in_ok-ask.ensures in
    let unsat : IsUnsatisfiable s.vars s.conds = subst (IsUnsatisfiable c.args.state.vars) c.atoms.ensures told in
    inr (inl (refl, unsat))

pub returns-in_ok-conds-in-Undecided-clause-folded : goal.returns-in_ok-conds-in-Undecided-clause-folded
returns-in_ok-conds-in-Undecided-clause-folded g c =
    let s = state_view c.args.state in
    let x = checking_view c.args.checking.now in
    let told = subst (λ r. IsRightly c.args.state.vars (atoms_view c.atoms.result.now) (satisfiability_view r)) c.in-Undecided.is c.in_ok-ask.ensures in
    let outside : IsOutside s.conds c.in-Undecided.reason = subst (λ cs. IsOutside cs c.in-Undecided.reason) c.atoms.ensures told in
    let same = c.in_ok-conds-in-Undecided.ensures ∙ c.atoms-in-Undecided.ensures in
    ok_to c.doubted_next.result _ (λ n. IsFoldedNext g.M.SymMemory.stands g.M.SymMemory.terms c.args.here.now x (fact_view c.args.fact) s (next_view n))
    (λ n doubt. inr (inr (c.in-Undecided.reason, (outside, subst (λ cs. IsDoubtNext FaultKind.FoldBody c.args.here.now x.path (beyond cs c.in-Undecided.reason) (next_view n)) same doubt)))) c.doubted_next.ensures.shows

pub returns-in_ok-conds-in-Undecided-clause-same : goal.returns-in_ok-conds-in-Undecided-clause-same
returns-in_ok-conds-in-Undecided-clause-same g c =
    let s = state_view c.args.state in
    let x = checking_view c.args.checking.now in
    let conds = atoms_view c.in_ok-conds-in-Undecided.conds in
    let same : conds ≡ s.conds = c.in_ok-conds-in-Undecided.ensures ∙ c.atoms-in-Undecided.ensures in
    ok_to c.doubted_next.result (λ n. IsDoubtNext FaultKind.FoldBody c.args.here.now x.path (beyond conds c.in-Undecided.reason) (next_view n)) (λ n. HasConds s.conds (next_view n))
    (λ n doubt. subst (λ cs. HasConds cs (next_view n)) same (beyond_same FaultKind.FoldBody c.args.here.now x.path conds c.in-Undecided.reason (next_view n) doubt)) c.doubted_next.ensures.shows
