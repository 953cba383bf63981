use Rattle.std.proofs.Common.{IfNone, IfOk, IfSome, subst}
use Rattle.pure_terms.specs.Meaning.{IsOver}
use Rattle.pure_terms.specs.View.{atoms_view}
use Rattle.sym_evaluation.specs.View.{store_view}
use Rattle.sym_paths.proofs.Moving.{running_each}
use Rattle.gil_syntax.specs.Program.{prog_view}
use Rattle.gil_syntax.specs.Pure.{loop_invariant}
use Rattle.gil_syntax.specs.View.{assertion_view}
use Rattle.sym_states.proofs.Values.{ok_to}
use Rattle.checked_paths.specs.declared.nexts.FaultKind.{FaultKind}
use Rattle.checked_paths.specs.View.{checking_view, entry_view, nexts_view}
use Rattle.sym_model.specs.Lists.{Each}
use Rattle.checked_paths.specs.Exactness.{AddsOnly}
use Rattle.checked_rows.specs.Asked.{DoubtAdds}
use Rattle.checked_rows.specs.Doubts.{IsDoubtAlone}
use Rattle.invariant_rows.specs.Asked.{AsksNames, AsksVisitThere}
use Rattle.invariant_rows.proofs.AskedLaws.{alone_adds, doubt_to, names_visit}
use Rattle.checked_rows.specs.Rows.{IsExactRowOf}
use Rattle.checked_rows.specs.View.{doubt_view}
use Rattle.checked_rows.proofs.ExactLaws.{right_alone}
use Rattle.invariant_rows.proofs.LeftLaws.{unfit_is_fault}
use Rattle.checked_rows.proofs.NameLaws.{names_each}
use Rattle.invariant_rows.specs.Fitting.{AllFit, DoubtsSorts}
use Rattle.invariant_rows.proofs.visiting.listed_row.Goals as goal

pub doubt_of_sorts-requires-clause-names : goal.doubt_of_sorts-requires-clause-names
doubt_of_sorts-requires-clause-names g c =
    let x = checking_view c.args.checking.now in
    let e = entry_view c.args.spec.now c.args.entered.now in
    names_each (IsOver x.path.vars) x.path.stack e.variables (store_view c.in_ok-names.names) (running_each (IsOver x.path.vars) x.path.stack c.requires.over.path.stores) c.requires.over.entry.variables c.in_ok-names.ensures

pub matched_row-requires-clause-fits : goal.matched_row-requires-clause-fits
matched_row-requires-clause-fits g c =
    let vars = c.args.checking.now.path.vars in
    let names = store_view c.in_ok-names.names in
    let scope = c.in_ok-scope.scope in
    let fits = subst (λ o. IfNone o (AllFit scope vars (atoms_view c.atoms-conds.result.now) names scope)) c.in-None.is c.in_ok-doubt.ensures.none in
    (names, (c.in_ok-names.ensures, subst (λ conds. AllFit scope vars conds names scope) c.atoms-conds.ensures fits))

pub returns-in-Some-clause-exact : goal.returns-in-Some-clause-exact
returns-in-Some-clause-exact g c =
    let p = prog_view c.args.prog.now in
    let memory = g.M.Local.LocalMemory.memory in
    let m = g.M.Local.LocalMemory.actions in
    let stands = g.M.SymMemory.stands in
    let terms = g.M.SymMemory.terms in
    let e = entry_view c.args.spec.now c.args.entered.now in
    let x = checking_view c.args.checking.now in
    let xs = c.args.listed.now in
    let ps = c.args.declared.now in
    let items = assertion_view c.args.items.now in
    let here = c.args.here.now in
    let scope = c.in_ok-scope.scope in
    let names = store_view c.in_ok-names.names in
    let doubt = doubt_view c.in-Some.doubt in
    let told = subst (λ o. IfSome o (λ d. DoubtsSorts scope x.path.vars (atoms_view c.atoms-conds.result.now) names (doubt_view d))) c.in-Some.is c.in_ok-doubt.ensures.doubt in
    let doubts : DoubtsSorts scope x.path.vars x.path.conds names doubt = subst (λ cs. DoubtsSorts scope x.path.vars cs names doubt) c.atoms-conds.ensures told in
    ok_to c.doubted.result
    (λ ns. IsDoubtAlone FaultKind.Invariant here x.path doubt (nexts_view ns))
    (λ ns. IsExactRowOf p memory m stands terms e x (loop_invariant xs ps items) here (nexts_view ns))
    (λ ns alone n may at this place. right_alone p memory m stands e x FaultKind.Invariant here place doubt
    (unfit_is_fault p memory m stands terms e x xs ps items scope c.in_ok-scope.ensures n at this names c.in_ok-names.ensures doubt doubts) (nexts_view ns) alone)
    c.doubted.ensures.shows

pub returns-in-Some-clause-asked : goal.returns-in-Some-clause-asked
returns-in-Some-clause-asked g c =
    let p = prog_view c.args.prog.now in
    let e = entry_view c.args.spec.now c.args.entered.now in
    let x = checking_view c.args.checking.now in
    let items = assertion_view c.args.items.now in
    let here = c.args.here.now in
    let scope = c.in_ok-scope.scope in
    let names = store_view c.in_ok-names.names in
    let doubt = doubt_view c.in-Some.doubt in
    let told = subst (λ o. IfSome o (λ d. DoubtAdds (AsksNames scope names) (atoms_view c.atoms-conds.result.now) (doubt_view d))) c.in-Some.is c.in_ok-doubt.ensures.asked in
    let adds : DoubtAdds (AsksNames scope names) x.path.conds doubt = subst (λ cs. DoubtAdds (AsksNames scope names) cs doubt) c.atoms-conds.ensures told in
    let own = AsksVisitThere e x p scope items in
    ok_to c.doubted.result (λ ns. IsDoubtAlone FaultKind.Invariant here x.path doubt (nexts_view ns)) _
    (λ ns alone. subst (λ qs. Each (AddsOnly (AsksVisitThere e x p qs items) x) (nexts_view ns)) c.in_ok-scope.ensures
    (alone_adds own FaultKind.Invariant here x doubt (nexts_view ns) (doubt_to (AsksNames scope names) own x.path.conds doubt (names_visit e x p scope items names c.in_ok-names.ensures) adds) alone)) c.doubted.ensures.shows

pub returns-clause-asked : goal.returns-clause-asked
returns-clause-asked g c =
    let p = prog_view c.args.prog.now in
    let e = entry_view c.args.spec.now c.args.entered.now in
    let x = checking_view c.args.checking.now in
    let items = assertion_view c.args.items.now in
    subst (λ qs. IfOk c.matched_row.result (λ ns. Each (AddsOnly (AsksVisitThere e x p qs items) x) (nexts_view ns))) c.in_ok-scope.ensures c.matched_row.ensures.asked
