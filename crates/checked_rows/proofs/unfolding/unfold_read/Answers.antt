use Rattle.std.proofs.Common.{rules, ◌≡◌, inl, inr, length, subst}
use Rattle.gil_values.specs.View.{values_view}
use Rattle.gil_syntax.specs.View.{pred_def_view}
use Rattle.pure_terms.specs.View.{atoms_view, terms_view}
use Rattle.sym_states.proofs.Values.{ok_to}
use Rattle.sym_states.specs.Meaning.{IsOverTable}
use Rattle.sym_states.specs.View.{state_view}
use Rattle.sym_unfolding.specs.Further.{IsFurther}
use Rattle.sym_unfolding.specs.Unfolding.{PureUnfoldedCase, IsUnmatched, IsUndecided, IsUnfolded}
use Rattle.sym_unfolding.specs.View.{cases_view, unfolding_view}
use Rattle.checked_paths.specs.declared.nexts.FaultKind.{FaultKind}
use Rattle.checked_paths.specs.View.{checking_view, nexts_view}
use Rattle.checked_rows.specs.Doubts.{always, under, beyond, IsDoubtAlone}
use Rattle.checked_rows.specs.Unfolding.{AreUnfoldings, EachUnfolded}
use Rattle.sym_model.specs.Lists.{Each}
use Rattle.sym_model.proofs.ListLaws.{each_to}
use Rattle.sym_unfolding.specs.Origins.{AsksTaking, AsksUnfolding, UnfoldingComesFrom}
use Rattle.checked_paths.specs.Meaning.{EachWith}
use Rattle.checked_rows.specs.Asked.{HasConds, AddsIn, DoubtAdds}
use Rattle.checked_rows.proofs.AskedLaws.{doubts_in, doubt_to}
use Rattle.checked_rows.proofs.AskedStates.{taking_unfolds, all_unfolded}
use Rattle.checked_rows.proofs.unfolding.unfold_read.Goals as goal

pub returns-in-Unfolded-clause-unfoldings : goal.returns-in-Unfolded-clause-unfoldings
returns-in-Unfolded-clause-unfoldings g c =
    let stands = g.M.SymMemory.stands in
    let terms = g.M.SymMemory.terms in
    let kept = g.M.SymMemory.kept in
    let memory = g.M.Local.LocalMemory.memory in
    let here = c.args.here.now in
    let x = checking_view c.args.checking.now in
    let s = state_view c.args.state in
    let d = pred_def_view c.args.pred.now in
    let ins = terms_view c.args.ins.now in
    let outs = terms_view c.args.outs.now in
    let ins_count : length (terms_view c.args.ins.now) ≡ length (pred_def_view c.args.pred.now).ins = search rules in
    let outs_count : length (terms_view c.args.outs.now) ≡ length (pred_def_view c.args.pred.now).outs = search rules in
    let all = subst (λ r. IsUnfolded memory stands terms kept d ins outs s (unfolding_view r)) c.in-Unfolded.is c.in_ok-cases.ensures.says in
    ok_to c.each_case.result (λ ns. EachUnfolded stands terms here x (cases_view c.in-Unfolded.cases) (nexts_view ns)) (λ ns. AreUnfoldings memory stands terms kept here d x s ins outs (nexts_view ns))
    (λ ns each. inr (inr ((ins_count, outs_count), (cases_view c.in-Unfolded.cases, (all.0, all.1, all.2, each))))) c.each_case.ensures.unfolded

pub returns-in-Unmatched-clause-unfoldings : goal.returns-in-Unmatched-clause-unfoldings
returns-in-Unmatched-clause-unfoldings g c =
    let stands = g.M.SymMemory.stands in
    let terms = g.M.SymMemory.terms in
    let kept = g.M.SymMemory.kept in
    let memory = g.M.Local.LocalMemory.memory in
    let here = c.args.here.now in
    let x = checking_view c.args.checking.now in
    let s = state_view c.args.state in
    let d = pred_def_view c.args.pred.now in
    let ins = terms_view c.args.ins.now in
    let outs = terms_view c.args.outs.now in
    let conds = atoms_view c.in-Unmatched.conds in
    let u = values_view c.in-Unmatched.valuation in
    let none : IsUnmatched memory stands terms kept d ins outs s conds u = subst (λ r. IsUnfolded memory stands terms kept d ins outs s (unfolding_view r)) c.in-Unmatched.is c.in_ok-cases.ensures.says in
    ok_to c.doubted-in-Unmatched.result (λ ns. IsDoubtAlone FaultKind.FoldBody here x.path (under conds u) (nexts_view ns)) (λ ns. AreUnfoldings memory stands terms kept here d x s ins outs (nexts_view ns))
    (λ ns alone. inl (under conds u, ((none.further, none.meets, λ v met l ws us has. none.none v l ws us has met), alone))) c.doubted-in-Unmatched.ensures.shows

pub returns-in-Unknown-clause-unfoldings : goal.returns-in-Unknown-clause-unfoldings
returns-in-Unknown-clause-unfoldings g c =
    let stands = g.M.SymMemory.stands in
    let terms = g.M.SymMemory.terms in
    let kept = g.M.SymMemory.kept in
    let memory = g.M.Local.LocalMemory.memory in
    let here = c.args.here.now in
    let x = checking_view c.args.checking.now in
    let s = state_view c.args.state in
    let d = pred_def_view c.args.pred.now in
    let ins = terms_view c.args.ins.now in
    let outs = terms_view c.args.outs.now in
    let conds = atoms_view c.in-Unknown.conds in
    let reason = c.in-Unknown.reason in
    let undecided : IsUndecided memory stands terms kept d ins outs s conds c.in-Unknown.reason = subst (λ r. IsUnfolded memory stands terms kept d ins outs s (unfolding_view r)) c.in-Unknown.is c.in_ok-cases.ensures.says in
    ok_to c.doubted-in-Unknown.result (λ ns. IsDoubtAlone FaultKind.FoldBody here x.path (beyond conds reason) (nexts_view ns)) (λ ns. AreUnfoldings memory stands terms kept here d x s ins outs (nexts_view ns))
    (λ ns alone. inl (beyond conds reason, ((undecided.further, undecided.outside), alone))) c.doubted-in-Unknown.ensures.shows

pub returns-then-not-fits-clause-asked : goal.returns-then-not-fits-clause-asked
returns-then-not-fits-clause-asked g c =
    let x = checking_view c.args.checking.now in
    let s = state_view c.args.state in
    let Asks = AsksUnfolding (pred_def_view c.args.pred.now) (terms_view c.args.ins.now) (terms_view c.args.outs.now) s.facts in
    ok_to c.doubted.result (λ ns. IsDoubtAlone FaultKind.FoldBody c.args.here.now x.path always (nexts_view ns)) (λ ns. Each (AddsIn Asks x s) (nexts_view ns))
    (λ ns alone. doubts_in FaultKind.FoldBody c.args.here.now x Asks s always tt (nexts_view ns) alone) c.doubted.ensures.shows

pub returns-in-Unfolded-clause-asked : goal.returns-in-Unfolded-clause-asked
returns-in-Unfolded-clause-asked g c =
    let terms = g.M.SymMemory.terms in
    let x = checking_view c.args.checking.now in
    let s = state_view c.args.state in
    let d = pred_def_view c.args.pred.now in
    let ins = terms_view c.args.ins.now in
    let outs = terms_view c.args.outs.now in
    let rs = cases_view c.in-Unfolded.cases in
    let come = subst (λ r. UnfoldingComesFrom terms d ins outs s (unfolding_view r)) c.in-Unfolded.is c.in_ok-cases.ensures.origin in
    ok_to c.each_case.result (λ ns. EachWith (λ r k. HasConds r.state.conds k) rs (nexts_view ns)) (λ ns. Each (AddsIn (AsksUnfolding d ins outs s.facts) x s) (nexts_view ns))
    (λ ns same. all_unfolded terms d ins outs x s rs (nexts_view ns) same come) c.each_case.ensures.same

pub returns-in-Unmatched-clause-asked : goal.returns-in-Unmatched-clause-asked
returns-in-Unmatched-clause-asked g c =
    let terms = g.M.SymMemory.terms in
    let x = checking_view c.args.checking.now in
    let s = state_view c.args.state in
    let d = pred_def_view c.args.pred.now in
    let ins = terms_view c.args.ins.now in
    let outs = terms_view c.args.outs.now in
    let doubt = under (atoms_view c.in-Unmatched.conds) (values_view c.in-Unmatched.valuation) in
    let comes : DoubtAdds (AsksTaking d ins outs s.facts) s.conds doubt = subst (λ r. UnfoldingComesFrom terms d ins outs s (unfolding_view r)) c.in-Unmatched.is c.in_ok-cases.ensures.origin in
    ok_to c.doubted-in-Unmatched.result (λ ns. IsDoubtAlone FaultKind.FoldBody c.args.here.now x.path doubt (nexts_view ns)) (λ ns. Each (AddsIn (AsksUnfolding d ins outs s.facts) x s) (nexts_view ns))
    (λ ns alone. doubts_in FaultKind.FoldBody c.args.here.now x (AsksUnfolding d ins outs s.facts) s doubt
    (doubt_to (AsksTaking d ins outs s.facts) (AsksUnfolding d ins outs s.facts) (taking_unfolds terms d ins outs x s) s.conds doubt comes) (nexts_view ns) alone) c.doubted-in-Unmatched.ensures.shows

pub returns-in-Unknown-clause-asked : goal.returns-in-Unknown-clause-asked
returns-in-Unknown-clause-asked g c =
    let terms = g.M.SymMemory.terms in
    let x = checking_view c.args.checking.now in
    let s = state_view c.args.state in
    let d = pred_def_view c.args.pred.now in
    let ins = terms_view c.args.ins.now in
    let outs = terms_view c.args.outs.now in
    let doubt = beyond (atoms_view c.in-Unknown.conds) c.in-Unknown.reason in
    let comes : DoubtAdds (AsksTaking d ins outs s.facts) s.conds doubt = subst (λ r. UnfoldingComesFrom terms d ins outs s (unfolding_view r)) c.in-Unknown.is c.in_ok-cases.ensures.origin in
    ok_to c.doubted-in-Unknown.result (λ ns. IsDoubtAlone FaultKind.FoldBody c.args.here.now x.path doubt (nexts_view ns)) (λ ns. Each (AddsIn (AsksUnfolding d ins outs s.facts) x s) (nexts_view ns))
    (λ ns alone. doubts_in FaultKind.FoldBody c.args.here.now x (AsksUnfolding d ins outs s.facts) s doubt
    (doubt_to (AsksTaking d ins outs s.facts) (AsksUnfolding d ins outs s.facts) (taking_unfolds terms d ins outs x s) s.conds doubt comes) (nexts_view ns) alone) c.doubted-in-Unknown.ensures.shows

pub each_case-requires-clause-over : goal.each_case-requires-clause-over
each_case-requires-clause-over g c =
    let stands = g.M.SymMemory.stands in
    let terms = g.M.SymMemory.terms in
    let kept = g.M.SymMemory.kept in
    let memory = g.M.Local.LocalMemory.memory in
    let s = state_view c.args.state in
    let all = subst (λ r. IsUnfolded memory stands terms kept (pred_def_view c.args.pred.now) (terms_view c.args.ins.now) (terms_view c.args.outs.now) s (unfolding_view r)) c.in-Unfolded.is c.in_ok-cases.ensures.says in
    each_to (λ (r : PureUnfoldedCase g.row.M.Denot). IsFurther terms kept s r.state) (λ (r : PureUnfoldedCase g.row.M.Denot). IsOverTable terms r.state) (cases_view c.in-Unfolded.cases) (λ r further. further.over) all.1
