use Rattle.std.proofs.Common.{inl, inr, subst}
use Rattle.gil_values.specs.View.{values_view}
use Rattle.gil_syntax.specs.Program.{prog_view}
use Rattle.pure_terms.specs.View.{atoms_view, terms_view}
use Rattle.sym_paths.specs.Asking.{IsOutside}
use Rattle.sym_model.proofs.ListLaws.{each_to}
use Rattle.sym_states.specs.Meaning.{IsOverTable}
use Rattle.checked_paths.specs.declared.nexts.FaultKind.{FaultKind}
use Rattle.checked_rows.specs.Doubts.{under, beyond, IsDoubtAlone}
use Rattle.footprint.specs.Consuming.{IsFolding, Folds, FoldsNever}
use Rattle.footprint.specs.Leaves.{IsLonger, IsMatch, AreAll, IsUnmatched, IsAnswer}
use Rattle.footprint.specs.View.{matching_view, matches_view}
use Rattle.sym_states.proofs.Values.{ok_to}
use Rattle.sym_states.specs.View.{state_view}
use Rattle.checked_paths.specs.View.{checking_view, nexts_view}
use Rattle.checked_rows.specs.Folding.{AreFoldings, EachFolded, fact_of}
use Rattle.sym_model.specs.Lists.{Each}
use Rattle.footprint.specs.Origins.{IsOwnToMatching, AnswerComesFrom, IsCaseOf, fold_origin}
use Rattle.checked_paths.specs.Meaning.{EachWith}
use Rattle.checked_rows.specs.Asked.{HasConds, AddsIn, DoubtAdds}
use Rattle.checked_rows.specs.Asking.{AsksFolding}
use Rattle.checked_rows.proofs.AskedLaws.{doubts_in, doubt_to}
use Rattle.checked_rows.proofs.AskedStates.{own_folds, all_folded}
use Rattle.checked_rows.proofs.folding.fold_read.Goals as goal

pub returns-in-All-clause-foldings : goal.returns-in-All-clause-foldings
returns-in-All-clause-foldings g c =
    let stands = g.M.SymMemory.stands in
    let terms = g.M.SymMemory.terms in
    let kept = g.M.SymMemory.kept in
    let preds = (prog_view c.args.prog.now).preds in
    let x = checking_view c.args.checking.now in
    let s = state_view c.args.state in
    let ins = terms_view c.args.ins.now in
    let outs = terms_view c.args.outs.now in
    let all = subst (λ r. IsAnswer stands terms kept s (IsFolding stands terms s ins outs) (Folds preds c.args.name.now ins outs) (FoldsNever preds c.args.name.now ins outs) (matching_view r)) c.in-All.is c.in_ok-matches.ensures.says in
    ok_to c.go_on_folded.result (λ ns. EachFolded stands terms c.args.here.now x (fact_of c.args.name.now ins outs) (matches_view c.in-All.matches) (nexts_view ns)) (λ ns. AreFoldings stands terms kept c.args.here.now preds x s c.args.name.now ins outs (nexts_view ns))
    (λ ns each. inr (matches_view c.in-All.matches, (all, each))) c.go_on_folded.ensures.folded

pub go_on_folded-requires-clause-over : goal.go_on_folded-requires-clause-over
go_on_folded-requires-clause-over g c =
    let stands = g.M.SymMemory.stands in
    let terms = g.M.SymMemory.terms in
    let kept = g.M.SymMemory.kept in
    let preds = (prog_view c.args.prog.now).preds in
    let s = state_view c.args.state in
    let ins = terms_view c.args.ins.now in
    let outs = terms_view c.args.outs.now in
    let all : AreAll stands terms kept s (IsFolding stands terms s ins outs) (Folds preds c.args.name.now ins outs) (matches_view c.in-All.matches) =
    subst (λ r. IsAnswer stands terms kept s (IsFolding stands terms s ins outs) (Folds preds c.args.name.now ins outs) (FoldsNever preds c.args.name.now ins outs) (matching_view r)) c.in-All.is c.in_ok-matches.ensures.says in
    each_to (IsMatch stands terms kept s (IsFolding stands terms s ins outs) (Folds preds c.args.name.now ins outs)) (λ k. IsOverTable terms k.state) (matches_view c.in-All.matches) (λ k match. match.later.over) all.matched

pub returns-in-Unmatched-clause-foldings : goal.returns-in-Unmatched-clause-foldings
returns-in-Unmatched-clause-foldings g c =
    let stands = g.M.SymMemory.stands in
    let terms = g.M.SymMemory.terms in
    let kept = g.M.SymMemory.kept in
    let preds = (prog_view c.args.prog.now).preds in
    let x = checking_view c.args.checking.now in
    let s = state_view c.args.state in
    let ins = terms_view c.args.ins.now in
    let outs = terms_view c.args.outs.now in
    let conds = atoms_view c.in-Unmatched.conds in
    let u = values_view c.in-Unmatched.valuation in
    let none : IsUnmatched stands terms kept s (IsFolding stands terms s ins outs) (FoldsNever preds c.args.name.now ins outs) (record { item = c.in-Unmatched.item; conds = conds }) u =
    subst (λ r. IsAnswer stands terms kept s (IsFolding stands terms s ins outs) (Folds preds c.args.name.now ins outs) (FoldsNever preds c.args.name.now ins outs) (matching_view r)) c.in-Unmatched.is c.in_ok-matches.ensures.says in
    ok_to c.doubted.result (λ ns. IsDoubtAlone FaultKind.FoldBody c.args.here.now x.path (under conds u) (nexts_view ns)) (λ ns. AreFoldings stands terms kept c.args.here.now preds x s c.args.name.now ins outs (nexts_view ns))
    (λ ns alone. inl (under conds u, ((none.stop.longer, none.meets, λ v met t l folding. none.stop.exact v t l folding met), alone))) c.doubted.ensures.shows

pub returns-in-Unknown-clause-foldings : goal.returns-in-Unknown-clause-foldings
returns-in-Unknown-clause-foldings g c =
    let stands = g.M.SymMemory.stands in
    let terms = g.M.SymMemory.terms in
    let kept = g.M.SymMemory.kept in
    let preds = (prog_view c.args.prog.now).preds in
    let x = checking_view c.args.checking.now in
    let s = state_view c.args.state in
    let ins = terms_view c.args.ins.now in
    let outs = terms_view c.args.outs.now in
    let conds = atoms_view c.in-Unknown.conds in
    let und : IsLonger s.conds conds × IsOutside conds c.in-Unknown.reason =
    subst (λ r. IsAnswer stands terms kept s (IsFolding stands terms s ins outs) (Folds preds c.args.name.now ins outs) (FoldsNever preds c.args.name.now ins outs) (matching_view r)) c.in-Unknown.is c.in_ok-matches.ensures.says in
    ok_to c.doubted-in-Unknown.result (λ ns. IsDoubtAlone FaultKind.FoldBody c.args.here.now x.path (beyond conds c.in-Unknown.reason) (nexts_view ns)) (λ ns. AreFoldings stands terms kept c.args.here.now preds x s c.args.name.now ins outs (nexts_view ns))
    (λ ns alone. inl (beyond conds c.in-Unknown.reason, (und, alone))) c.doubted-in-Unknown.ensures.shows

pub returns-in-All-clause-asked : goal.returns-in-All-clause-asked
returns-in-All-clause-asked g c =
    let terms = g.M.SymMemory.terms in
    let preds = (prog_view c.args.prog.now).preds in
    let x = checking_view c.args.checking.now in
    let s = state_view c.args.state in
    let ins = terms_view c.args.ins.now in
    let outs = terms_view c.args.outs.now in
    let ms = matches_view c.in-All.matches in
    let come = subst (λ r. AnswerComesFrom terms (fold_origin terms preds c.args.name.now ins outs s) (IsCaseOf preds c.args.name.now) s.conds (matching_view r)) c.in-All.is c.in_ok-matches.ensures.origin in
    ok_to c.go_on_folded.result (λ ns. EachWith (λ k n. HasConds k.state.conds n) ms (nexts_view ns)) (λ ns. Each (AddsIn (AsksFolding preds c.args.name.now ins outs) x s) (nexts_view ns))
    (λ ns same. all_folded terms preds c.args.name.now ins outs x s ms (nexts_view ns) same come) c.go_on_folded.ensures.same

pub returns-in-Unmatched-clause-asked : goal.returns-in-Unmatched-clause-asked
returns-in-Unmatched-clause-asked g c =
    let terms = g.M.SymMemory.terms in
    let preds = (prog_view c.args.prog.now).preds in
    let x = checking_view c.args.checking.now in
    let s = state_view c.args.state in
    let ins = terms_view c.args.ins.now in
    let outs = terms_view c.args.outs.now in
    let d = under (atoms_view c.in-Unmatched.conds) (values_view c.in-Unmatched.valuation) in
    let Own = IsOwnToMatching (fold_origin terms preds c.args.name.now ins outs s) in
    let comes : DoubtAdds Own s.conds d =
    subst (λ r. AnswerComesFrom terms (fold_origin terms preds c.args.name.now ins outs s) (IsCaseOf preds c.args.name.now) s.conds (matching_view r)) c.in-Unmatched.is c.in_ok-matches.ensures.origin in
    ok_to c.doubted.result (λ ns. IsDoubtAlone FaultKind.FoldBody c.args.here.now x.path d (nexts_view ns)) (λ ns. Each (AddsIn (AsksFolding preds c.args.name.now ins outs) x s) (nexts_view ns))
    (λ ns alone. doubts_in FaultKind.FoldBody c.args.here.now x (AsksFolding preds c.args.name.now ins outs) s d
    (doubt_to Own (AsksFolding preds c.args.name.now ins outs) (own_folds terms preds c.args.name.now ins outs x s) s.conds d comes) (nexts_view ns) alone) c.doubted.ensures.shows

pub returns-in-Unknown-clause-asked : goal.returns-in-Unknown-clause-asked
returns-in-Unknown-clause-asked g c =
    let terms = g.M.SymMemory.terms in
    let preds = (prog_view c.args.prog.now).preds in
    let x = checking_view c.args.checking.now in
    let s = state_view c.args.state in
    let ins = terms_view c.args.ins.now in
    let outs = terms_view c.args.outs.now in
    let d = beyond (atoms_view c.in-Unknown.conds) c.in-Unknown.reason in
    let Own = IsOwnToMatching (fold_origin terms preds c.args.name.now ins outs s) in
    let comes : DoubtAdds Own s.conds d =
    subst (λ r. AnswerComesFrom terms (fold_origin terms preds c.args.name.now ins outs s) (IsCaseOf preds c.args.name.now) s.conds (matching_view r)) c.in-Unknown.is c.in_ok-matches.ensures.origin in
    ok_to c.doubted-in-Unknown.result (λ ns. IsDoubtAlone FaultKind.FoldBody c.args.here.now x.path d (nexts_view ns)) (λ ns. Each (AddsIn (AsksFolding preds c.args.name.now ins outs) x s) (nexts_view ns))
    (λ ns alone. doubts_in FaultKind.FoldBody c.args.here.now x (AsksFolding preds c.args.name.now ins outs) s d
    (doubt_to Own (AsksFolding preds c.args.name.now ins outs) (own_folds terms preds c.args.name.now ins outs x s) s.conds d comes) (nexts_view ns) alone) c.doubted-in-Unknown.ensures.shows
