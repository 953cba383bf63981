use Rattle.std.proofs.Common.{inl, inr, subst}
use Rattle.gil_syntax.specs.View.{pred_def_view, pred_use_view}
use Rattle.pure_terms.specs.View.{terms_view}
use Rattle.sym_evaluation.specs.View.{store_view}
use Rattle.sym_states.proofs.Values.{ok_to}
use Rattle.sym_states.specs.View.{state_view}
use Rattle.checked_paths.specs.View.{checking_view, nexts_view}
use Rattle.checked_paths.specs.declared.nexts.FaultKind.{FaultKind}
use Rattle.checked_rows.specs.Doubts.{IsDoubtIn, IsDoubtAlone}
use Rattle.checked_rows.specs.Reading.{AreUnread, Reads}
use Rattle.checked_rows.specs.Unfolding.{AreUnfoldings, UnfoldsOuts}
use Rattle.checked_rows.specs.View.{doubt_view, reading_view}
use Rattle.sym_model.specs.Lists.{Each}
use Rattle.sym_states.specs.Producing.{IsAskedAmong}
use Rattle.sym_unfolding.specs.Origins.{AsksUnfolding}
use Rattle.checked_rows.specs.Asked.{AddsIn, DoubtAdds, ReadingAsks, AsksAfterIns, AsksUnfoldingAny}
use Rattle.checked_rows.proofs.AskedStates.{outs_asked, outs_doubted, any_unfolded}
use Rattle.checked_rows.proofs.unfolding.unfold_outs.Goals as goal

pub returns-in-Values-clause-unfolds : goal.returns-in-Values-clause-unfolds
returns-in-Values-clause-unfolds g c =
    let stands = g.M.SymMemory.stands in
    let terms = g.M.SymMemory.terms in
    let kept = g.M.SymMemory.kept in
    let memory = g.M.Local.LocalMemory.memory in
    let d = pred_def_view c.args.pred.now in
    let x = checking_view c.args.checking.now in
    let s = state_view c.args.state in
    let bs = store_view c.args.names.now in
    let u = pred_use_view c.args.used.now in
    let ins = terms_view c.args.ins.now in
    let read = subst (λ r. Reads stands terms s bs u.outs (reading_view r)) c.in-Values.is c.in_ok-state.ensures.reads in
    ok_to c.unfold_read.result (λ ns. AreUnfoldings memory stands terms kept c.args.here.now d x (state_view c.in-Values.state) ins (terms_view c.in-Values.outs) (nexts_view ns)) (λ ns. UnfoldsOuts memory stands terms kept c.args.here.now d x bs u s ins (nexts_view ns))
    (λ ns folds. inr (inr (state_view c.in-Values.state, (terms_view c.in-Values.outs, (read, folds))))) c.unfold_read.ensures.unfoldings

pub returns-in-Doubted-clause-unfolds : goal.returns-in-Doubted-clause-unfolds
returns-in-Doubted-clause-unfolds g c =
    let stands = g.M.SymMemory.stands in
    let terms = g.M.SymMemory.terms in
    let kept = g.M.SymMemory.kept in
    let memory = g.M.Local.LocalMemory.memory in
    let d = pred_def_view c.args.pred.now in
    let x = checking_view c.args.checking.now in
    let s = state_view c.args.state in
    let bs = store_view c.args.names.now in
    let u = pred_use_view c.args.used.now in
    let ins = terms_view c.args.ins.now in
    let doubt = doubt_view c.in-Doubted.doubt in
    let read : IsDoubtIn s (AreUnread stands terms s bs u.outs) doubt = subst (λ r. Reads stands terms s bs u.outs (reading_view r)) c.in-Doubted.is c.in_ok-state.ensures.reads in
    ok_to c.doubted.result (λ ns. IsDoubtAlone FaultKind.FoldBody c.args.here.now x.path doubt (nexts_view ns)) (λ ns. UnfoldsOuts memory stands terms kept c.args.here.now d x bs u s ins (nexts_view ns))
    (λ ns alone. inl (doubt, (read, alone))) c.doubted.ensures.shows

pub returns-in-Values-clause-asked : goal.returns-in-Values-clause-asked
returns-in-Values-clause-asked g c =
    let d = pred_def_view c.args.pred.now in
    let x = checking_view c.args.checking.now in
    let s = state_view c.args.state in
    let r = state_view c.in-Values.state in
    let bs = store_view c.args.names.now in
    let u = pred_use_view c.args.used.now in
    let ins = terms_view c.args.ins.now in
    let outs = terms_view c.in-Values.outs in
    let asks = subst (λ k. ReadingAsks s.conds bs u.outs (reading_view k)) c.in-Values.is c.in_ok-state.ensures.asked in
    ok_to c.unfold_read.result (λ ns. Each (AddsIn (AsksUnfolding d ins outs r.facts) x r) (nexts_view ns)) (λ ns. Each (AddsIn (AsksAfterIns (AsksUnfoldingAny d) bs u ins) x s) (nexts_view ns))
    (λ ns each. outs_asked (AsksUnfoldingAny d) bs u ins outs x s r asks.0 asks.1 (nexts_view ns) (any_unfolded d u.pred ins outs r.facts x r (nexts_view ns) each)) c.unfold_read.ensures.asked

pub returns-in-Doubted-clause-asked : goal.returns-in-Doubted-clause-asked
returns-in-Doubted-clause-asked g c =
    let d = pred_def_view c.args.pred.now in
    let x = checking_view c.args.checking.now in
    let s = state_view c.args.state in
    let bs = store_view c.args.names.now in
    let u = pred_use_view c.args.used.now in
    let ins = terms_view c.args.ins.now in
    let doubt = doubt_view c.in-Doubted.doubt in
    let asks : DoubtAdds (IsAskedAmong bs u.outs) s.conds doubt = subst (λ k. ReadingAsks s.conds bs u.outs (reading_view k)) c.in-Doubted.is c.in_ok-state.ensures.asked in
    ok_to c.doubted.result (λ ns. IsDoubtAlone FaultKind.FoldBody c.args.here.now x.path doubt (nexts_view ns)) (λ ns. Each (AddsIn (AsksAfterIns (AsksUnfoldingAny d) bs u ins) x s) (nexts_view ns))
    (λ ns alone. outs_doubted (AsksUnfoldingAny d) bs u ins x s FaultKind.FoldBody c.args.here.now doubt asks (nexts_view ns) alone) c.doubted.ensures.shows
