use Rattle.std.proofs.Common.{◌≡◌, [], sym, subst}
use Rattle.gil_syntax.specs.Program.{prog_view}
use Rattle.gil_syntax.specs.Pure.{unfold_use}
use Rattle.gil_syntax.specs.View.{exprs_view, pred_def_view, pred_use_view}
use Rattle.pure_terms.specs.View.{terms_view}
use Rattle.sym_evaluation.specs.Meaning.{IsStoreOver}
use Rattle.sym_evaluation.specs.View.{store_view}
use Rattle.sym_states.proofs.Values.{ok_to}
use Rattle.sym_states.specs.View.{state_view}
use Rattle.checked_paths.specs.View.{checking_view, entry_view, nexts_view}
use Rattle.checked_paths.specs.declared.nexts.FaultKind.{FaultKind}
use Rattle.checked_paths.specs.Exactness.{AreExact}
use Rattle.checked_rows.specs.Doubts.{IsDoubtIn, IsDoubtAlone}
use Rattle.checked_rows.specs.Reading.{AreUnread, Reads}
use Rattle.checked_rows.specs.Rows.{AreRowOf, IsExactRowOf}
use Rattle.checked_rows.specs.Unfolding.{UnfoldsOuts}
use Rattle.checked_rows.specs.View.{doubt_view, reading_view}
use Rattle.checked_rows.proofs.FoldLaws.{read_vars}
use Rattle.checked_rows.proofs.MatchLaws.{names_over, over_there}
use Rattle.checked_rows.proofs.UnfoldLaws.{never_unfolds, serves_before, unfold_covers}
use Rattle.checked_rows.proofs.UnfoldExactLaws.{unread_is_exact, unfold_exact}
use Rattle.sym_model.specs.Lists.{Each}
use Rattle.sym_states.specs.Producing.{IsAskedAmong}
use Rattle.checked_rows.specs.Asked.{AddsIn, DoubtAdds, ReadingAsks, AsksAfterIns, AsksUnfoldingAny}
use Rattle.checked_rows.specs.Asking.{AsksOnlyOwn}
use Rattle.checked_rows.proofs.AskedRowLaws.{nothing_asks, use_asks, unread_asks, unfold_may}
use Rattle.checked_rows.proofs.StateLaws.{state_conds}
use Rattle.checked_rows.proofs.unfolding.unfold_own.Goals as goal

pub read_all-requires-clause-over : goal.read_all-requires-clause-over
read_all-requires-clause-over g c =
    over_there g.M.SymMemory.stands g.M.SymMemory.terms g.M.SymMemory.kept (entry_view c.args.spec.now c.args.entered.now) (checking_view c.args.checking) (state_view c.in_ok-state.state) (store_view c.in_ok-names.names) c.requires.over c.in_ok-state.ensures c.in_ok-names.ensures

pub read_all-requires-clause-store_over : goal.read_all-requires-clause-store_over
read_all-requires-clause-store_over g c =
    names_over g.M.SymMemory.stands g.M.SymMemory.terms g.M.SymMemory.kept (entry_view c.args.spec.now c.args.entered.now) (checking_view c.args.checking) (state_view c.in_ok-state.state) (store_view c.in_ok-names.names) c.requires.over c.in_ok-state.ensures c.in_ok-names.ensures

pub unfold_outs-requires-clause-store_over : goal.unfold_outs-requires-clause-store_over
unfold_outs-requires-clause-store_over g c =
    let stands = g.M.SymMemory.stands in
    let terms = g.M.SymMemory.terms in
    let s = state_view c.in_ok-state.state in
    let bs = store_view c.in_ok-names.names in
    let es = exprs_view c.args.used.now.ins in
    let read = subst (λ r. Reads stands terms s bs es (reading_view r)) c.in-Values.is c.in_ok-state-2.ensures.reads in
    subst (λ vars. IsStoreOver vars bs) (sym (read_vars stands terms s (state_view c.in-Values.state) bs es (terms_view c.in-Values.ins) read))
    (names_over stands terms g.M.SymMemory.kept (entry_view c.args.spec.now c.args.entered.now) (checking_view c.args.checking) s bs c.requires.over c.in_ok-state.ensures c.in_ok-names.ensures)

pub returns-in-Values-clause-next : goal.returns-in-Values-clause-next
returns-in-Values-clause-next g c =
    let stands = g.M.SymMemory.stands in
    let terms = g.M.SymMemory.terms in
    let kept = g.M.SymMemory.kept in
    let p = prog_view c.args.prog.now in
    let memory = g.M.Local.LocalMemory.memory in
    let m = g.M.Local.LocalMemory.actions in
    let e = entry_view c.args.spec.now c.args.entered.now in
    let x = checking_view c.args.checking in
    let s = state_view c.in_ok-state.state in
    let bs = store_view c.in_ok-names.names in
    let u = pred_use_view c.args.used.now in
    let r = state_view c.in-Values.state in
    let ins = terms_view c.in-Values.ins in
    let read = subst (λ k. Reads stands terms s bs u.ins (reading_view k)) c.in-Values.is c.in_ok-state-2.ensures.reads in
    ok_to c.unfold_outs.result (λ ns. UnfoldsOuts memory stands terms kept c.args.here.now (pred_def_view c.args.pred.now) x bs u r ins (nexts_view ns)) (λ ns. AreRowOf p memory m stands terms e x (unfold_use u) [] (nexts_view ns))
    (λ ns folds. unfold_covers p memory m stands terms g.met.M.SymMemory.meaning kept e x u c.requires.user (pred_def_view c.args.pred.now) c.requires.found c.args.prog.now.well_made c.requires.modes s bs c.in_ok-state.ensures c.in_ok-names.ensures c.args.prog.now.valid r ins read c.args.here.now (nexts_view ns) folds) c.unfold_outs.ensures.unfolds

pub returns-in-Never-clause-next : goal.returns-in-Never-clause-next
returns-in-Never-clause-next g c =
    let stands = g.M.SymMemory.stands in
    let terms = g.M.SymMemory.terms in
    let kept = g.M.SymMemory.kept in
    let p = prog_view c.args.prog.now in
    let memory = g.M.Local.LocalMemory.memory in
    let m = g.M.Local.LocalMemory.actions in
    let e = entry_view c.args.spec.now c.args.entered.now in
    let x = checking_view c.args.checking in
    let s = state_view c.in_ok-state.state in
    let bs = store_view c.in_ok-names.names in
    let u = pred_use_view c.args.used.now in
    let never = subst (λ k. Reads stands terms s bs u.ins (reading_view k)) c.in-Never.is c.in_ok-state-2.ensures.reads in
    ok_to c.nothing.result (λ ns. nexts_view ns ≡ []) (λ ns. AreRowOf p memory m stands terms e x (unfold_use u) [] (nexts_view ns))
    (λ ns none. subst (AreRowOf p memory m stands terms e x (unfold_use u) []) (sym none) (never_unfolds p memory m stands terms g.met.M.SymMemory.meaning kept e x u c.requires.user (pred_def_view c.args.pred.now) c.requires.found c.args.prog.now.well_made c.requires.modes s bs c.in_ok-state.ensures c.in_ok-names.ensures s
    (serves_before p memory m stands terms g.met.M.SymMemory.meaning kept e x u c.requires.user (pred_def_view c.args.pred.now) c.requires.found c.args.prog.now.well_made c.requires.modes s bs c.in_ok-state.ensures c.in_ok-names.ensures) never)) c.nothing.ensures

pub returns-in-Values-clause-exact : goal.returns-in-Values-clause-exact
returns-in-Values-clause-exact g c =
    let stands = g.M.SymMemory.stands in
    let terms = g.M.SymMemory.terms in
    let kept = g.M.SymMemory.kept in
    let p = prog_view c.args.prog.now in
    let memory = g.M.Local.LocalMemory.memory in
    let m = g.M.Local.LocalMemory.actions in
    let e = entry_view c.args.spec.now c.args.entered.now in
    let x = checking_view c.args.checking in
    let s = state_view c.in_ok-state.state in
    let bs = store_view c.in_ok-names.names in
    let u = pred_use_view c.args.used.now in
    let here = c.args.here.now in
    let r = state_view c.in-Values.state in
    let ins = terms_view c.in-Values.ins in
    let read = subst (λ k. Reads stands terms s bs u.ins (reading_view k)) c.in-Values.is c.in_ok-state-2.ensures.reads in
    ok_to c.unfold_outs.result (λ ns. UnfoldsOuts memory stands terms kept here (pred_def_view c.args.pred.now) x bs u r ins (nexts_view ns)) (λ ns. IsExactRowOf p memory m stands terms e x (unfold_use u) here (nexts_view ns))
    (λ ns folds n may at this place. unfold_exact p memory m stands terms g.met.M.SymMemory.meaning kept e x u c.requires.user (pred_def_view c.args.pred.now) c.requires.found c.args.prog.now.well_made c.requires.modes s bs c.in_ok-state.ensures c.in_ok-names.ensures n may at this here place c.args.prog.now.valid r ins read (nexts_view ns) folds) c.unfold_outs.ensures.unfolds

pub returns-in-Never-clause-exact : goal.returns-in-Never-clause-exact
returns-in-Never-clause-exact g c =
    let stands = g.M.SymMemory.stands in
    let terms = g.M.SymMemory.terms in
    let kept = g.M.SymMemory.kept in
    let p = prog_view c.args.prog.now in
    let memory = g.M.Local.LocalMemory.memory in
    let m = g.M.Local.LocalMemory.actions in
    let e = entry_view c.args.spec.now c.args.entered.now in
    let x = checking_view c.args.checking in
    let s = state_view c.in_ok-state.state in
    let bs = store_view c.in_ok-names.names in
    let u = pred_use_view c.args.used.now in
    let here = c.args.here.now in
    ok_to c.nothing.result (λ ns. nexts_view ns ≡ []) (λ ns. IsExactRowOf p memory m stands terms e x (unfold_use u) here (nexts_view ns))
    (λ ns none n may at this place. subst (AreExact p memory m stands e x) (sym none) tt) c.nothing.ensures

pub returns-clause-exact : goal.returns-clause-exact
returns-clause-exact g c =
    let stands = g.M.SymMemory.stands in
    let terms = g.M.SymMemory.terms in
    let kept = g.M.SymMemory.kept in
    let p = prog_view c.args.prog.now in
    let memory = g.M.Local.LocalMemory.memory in
    let m = g.M.Local.LocalMemory.actions in
    let e = entry_view c.args.spec.now c.args.entered.now in
    let x = checking_view c.args.checking in
    let s = state_view c.in_ok-state.state in
    let bs = store_view c.in_ok-names.names in
    let u = pred_use_view c.args.used.now in
    let here = c.args.here.now in
    let d = doubt_view c.in-Doubted.doubt in
    let read : IsDoubtIn s (AreUnread stands terms s bs u.ins) d = subst (λ k. Reads stands terms s bs u.ins (reading_view k)) c.in-Doubted.is c.in_ok-state-2.ensures.reads in
    ok_to c.doubted.result (λ ns. IsDoubtAlone FaultKind.FoldBody here x.path d (nexts_view ns)) (λ ns. IsExactRowOf p memory m stands terms e x (unfold_use u) here (nexts_view ns))
    (λ ns alone n may at this place. unread_is_exact p memory m stands terms g.met.M.SymMemory.meaning kept e x u c.requires.user (pred_def_view c.args.pred.now) c.requires.found c.args.prog.now.well_made c.requires.modes s bs c.in_ok-state.ensures c.in_ok-names.ensures n may at this here place (nexts_view ns) (d, (read, alone))) c.doubted.ensures.shows

pub returns-in-Values-clause-asked : goal.returns-in-Values-clause-asked
returns-in-Values-clause-asked g c =
    let stands = g.M.SymMemory.stands in
    let terms = g.M.SymMemory.terms in
    let p = prog_view c.args.prog.now in
    let e = entry_view c.args.spec.now c.args.entered.now in
    let x = checking_view c.args.checking in
    let s = state_view c.in_ok-state.state in
    let bs = store_view c.in_ok-names.names in
    let u = pred_use_view c.args.used.now in
    let d = pred_def_view c.args.pred.now in
    let r = state_view c.in-Values.state in
    let ins = terms_view c.in-Values.ins in
    let asks = subst (λ k. ReadingAsks s.conds bs u.ins (reading_view k)) c.in-Values.is c.in_ok-state-2.ensures.asked in
    ok_to c.unfold_outs.result (λ ns. Each (AddsIn (AsksAfterIns (AsksUnfoldingAny d) bs u ins) x r) (nexts_view ns)) (λ ns. AsksOnlyOwn p e x (unfold_use u) (nexts_view ns))
    (λ ns each. use_asks p e x u (AsksUnfoldingAny d) (unfold_use u) (unfold_may p e.spec u d c.requires.found) s (state_conds stands terms x.path x.facts s c.in_ok-state.ensures) bs c.in_ok-names.ensures r ins asks.0 asks.1 (nexts_view ns) each) c.unfold_outs.ensures.asked

pub returns-in-Never-clause-asked : goal.returns-in-Never-clause-asked
returns-in-Never-clause-asked g c =
    let p = prog_view c.args.prog.now in
    let e = entry_view c.args.spec.now c.args.entered.now in
    let x = checking_view c.args.checking in
    let u = pred_use_view c.args.used.now in
    ok_to c.nothing.result (λ ns. nexts_view ns ≡ []) (λ ns. AsksOnlyOwn p e x (unfold_use u) (nexts_view ns))
    (λ ns none. nothing_asks p e x (unfold_use u) (nexts_view ns) none) c.nothing.ensures

pub returns-clause-asked : goal.returns-clause-asked
returns-clause-asked g c =
    let stands = g.M.SymMemory.stands in
    let terms = g.M.SymMemory.terms in
    let p = prog_view c.args.prog.now in
    let e = entry_view c.args.spec.now c.args.entered.now in
    let x = checking_view c.args.checking in
    let s = state_view c.in_ok-state.state in
    let bs = store_view c.in_ok-names.names in
    let u = pred_use_view c.args.used.now in
    let d = pred_def_view c.args.pred.now in
    let doubt = doubt_view c.in-Doubted.doubt in
    let asks : DoubtAdds (IsAskedAmong bs u.ins) s.conds doubt = subst (λ k. ReadingAsks s.conds bs u.ins (reading_view k)) c.in-Doubted.is c.in_ok-state-2.ensures.asked in
    ok_to c.doubted.result (λ ns. IsDoubtAlone FaultKind.FoldBody c.args.here.now x.path doubt (nexts_view ns)) (λ ns. AsksOnlyOwn p e x (unfold_use u) (nexts_view ns))
    (λ ns alone. unread_asks p e x u (AsksUnfoldingAny d) (unfold_use u) (unfold_may p e.spec u d c.requires.found) s (state_conds stands terms x.path x.facts s c.in_ok-state.ensures) bs c.in_ok-names.ensures FaultKind.FoldBody c.args.here.now doubt asks (nexts_view ns) alone) c.doubted.ensures.shows
