use Rattle.std.proofs.Common.{inl, inr, subst}
use Rattle.gil_syntax.specs.Program.{prog_view}
use Rattle.gil_syntax.specs.View.{pred_use_view}
use Rattle.pure_terms.specs.View.{terms_view}
use Rattle.sym_evaluation.specs.View.{store_view}
use Rattle.sym_states.proofs.Values.{ok_to}
use Rattle.sym_states.specs.View.{state_view}
use Rattle.checked_paths.specs.View.{checking_view, nexts_view}
use Rattle.checked_rows.specs.Folding.{AreFoldings, FoldsOuts}
use Rattle.checked_paths.specs.declared.nexts.FaultKind.{FaultKind}
use Rattle.checked_rows.specs.Doubts.{IsDoubtIn, IsDoubtAlone}
use Rattle.checked_rows.specs.Reading.{AreUnread, Reads}
use Rattle.checked_rows.specs.View.{doubt_view, reading_view}
use Rattle.sym_model.specs.Lists.{Each}
use Rattle.sym_states.specs.Producing.{IsAskedAmong}
use Rattle.checked_rows.specs.Asked.{AddsIn, DoubtAdds, ReadingAsks, AsksAfterIns}
use Rattle.checked_rows.specs.Asking.{AsksFolding}
use Rattle.checked_rows.proofs.AskedStates.{outs_asked, outs_doubted}
use Rattle.checked_rows.proofs.folding.fold_outs.Goals as goal

pub returns-in-Values-clause-folds : goal.returns-in-Values-clause-folds
returns-in-Values-clause-folds g c =
    let stands = g.M.SymMemory.stands in
    let terms = g.M.SymMemory.terms in
    let kept = g.M.SymMemory.kept in
    let preds = (prog_view c.args.prog.now).preds in
    let x = checking_view c.args.checking.now in
    let s = state_view c.args.state in
    let bs = store_view c.args.names.now in
    let u = pred_use_view c.args.used.now in
    let ins = terms_view c.args.ins.now in
    let read = subst (λ r. Reads stands terms s bs u.outs (reading_view r)) c.in-Values.is c.in_ok-state.ensures.reads in
    ok_to c.fold_read.result (λ ns. AreFoldings stands terms kept c.args.here.now preds x (state_view c.in-Values.state) u.pred ins (terms_view c.in-Values.outs) (nexts_view ns)) (λ ns. FoldsOuts stands terms kept c.args.here.now preds x bs u s ins (nexts_view ns))
    (λ ns folds. inr (inr (state_view c.in-Values.state, (terms_view c.in-Values.outs, (read, folds))))) c.fold_read.ensures.foldings

pub returns-in-Doubted-clause-folds : goal.returns-in-Doubted-clause-folds
returns-in-Doubted-clause-folds g c =
    let stands = g.M.SymMemory.stands in
    let terms = g.M.SymMemory.terms in
    let kept = g.M.SymMemory.kept in
    let preds = (prog_view c.args.prog.now).preds in
    let x = checking_view c.args.checking.now in
    let s = state_view c.args.state in
    let bs = store_view c.args.names.now in
    let u = pred_use_view c.args.used.now in
    let ins = terms_view c.args.ins.now in
    let d = doubt_view c.in-Doubted.doubt in
    let read : IsDoubtIn s (AreUnread stands terms s bs u.outs) d = subst (λ r. Reads stands terms s bs u.outs (reading_view r)) c.in-Doubted.is c.in_ok-state.ensures.reads in
    ok_to c.doubted.result (λ ns. IsDoubtAlone FaultKind.FoldBody c.args.here.now x.path d (nexts_view ns)) (λ ns. FoldsOuts stands terms kept c.args.here.now preds x bs u s ins (nexts_view ns))
    (λ ns alone. inl (d, (read, alone))) c.doubted.ensures.shows

pub returns-in-Values-clause-asked : goal.returns-in-Values-clause-asked
returns-in-Values-clause-asked g c =
    let preds = (prog_view c.args.prog.now).preds in
    let x = checking_view c.args.checking.now in
    let s = state_view c.args.state in
    let r = state_view c.in-Values.state in
    let bs = store_view c.args.names.now in
    let u = pred_use_view c.args.used.now in
    let ins = terms_view c.args.ins.now in
    let outs = terms_view c.in-Values.outs in
    let asks = subst (λ k. ReadingAsks s.conds bs u.outs (reading_view k)) c.in-Values.is c.in_ok-state.ensures.asked in
    ok_to c.fold_read.result (λ ns. Each (AddsIn (AsksFolding preds u.pred ins outs) x r) (nexts_view ns)) (λ ns. Each (AddsIn (AsksAfterIns (AsksFolding preds) bs u ins) x s) (nexts_view ns))
    (λ ns each. outs_asked (AsksFolding preds) bs u ins outs x s r asks.0 asks.1 (nexts_view ns) each) c.fold_read.ensures.asked

pub returns-in-Doubted-clause-asked : goal.returns-in-Doubted-clause-asked
returns-in-Doubted-clause-asked g c =
    let preds = (prog_view c.args.prog.now).preds in
    let x = checking_view c.args.checking.now in
    let s = state_view c.args.state in
    let bs = store_view c.args.names.now in
    let u = pred_use_view c.args.used.now in
    let ins = terms_view c.args.ins.now in
    let d = doubt_view c.in-Doubted.doubt in
    let asks : DoubtAdds (IsAskedAmong bs u.outs) s.conds d = subst (λ k. ReadingAsks s.conds bs u.outs (reading_view k)) c.in-Doubted.is c.in_ok-state.ensures.asked in
    ok_to c.doubted.result (λ ns. IsDoubtAlone FaultKind.FoldBody c.args.here.now x.path d (nexts_view ns)) (λ ns. Each (AddsIn (AsksAfterIns (AsksFolding preds) bs u ins) x s) (nexts_view ns))
    (λ ns alone. outs_doubted (AsksFolding preds) bs u ins x s FaultKind.FoldBody c.args.here.now d asks (nexts_view ns) alone) c.doubted.ensures.shows
