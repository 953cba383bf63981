use Rattle.std.proofs.Common.{inl, inr, IfSome, sym, subst}
use Rattle.gil_syntax.specs.Program.{prog_view}
use Rattle.gil_syntax.specs.View.{spec_view}
use Rattle.pure_terms.specs.View.{atoms_view}
use Rattle.sym_evaluation.specs.View.{store_view}
use Rattle.sym_paths.specs.Frames.{running_store}
use Rattle.sym_states.proofs.Values.{ok_to}
use Rattle.checked_paths.specs.declared.nexts.FaultKind.{FaultKind}
use Rattle.pure_terms.specs.Meaning.{IsOver}
use Rattle.sym_evaluation.specs.Meaning.{IsStoreOver}
use Rattle.sym_paths.proofs.Moving.{running_each}
use Rattle.checked_paths.specs.View.{checking_view, entry_view, nexts_view}
use Rattle.checked_rows.specs.Doubts.{IsDoubtAlone}
use Rattle.checked_rows.specs.View.{doubt_view}
use Rattle.call_rows.specs.Arguments.{IsUnfitDoubt}
use Rattle.call_rows.specs.Matches.{AnswersCall}
use Rattle.sym_model.specs.Lists.{Each}
use Rattle.sym_model.proofs.ListLaws.{each_to}
use Rattle.checked_rows.specs.Asked.{DoubtAdds}
use Rattle.checked_rows.specs.Asking.{AddsTo}
use Rattle.call_rows.specs.Asked.{AsksFitting, AsksParams, AsksSpecified}
use Rattle.call_rows.proofs.AskedLaws.{adds_to, doubt_alone_adds, doubt_to}
use Rattle.call_rows.proofs.matches.specified_nexts.Goals as goal

pub arguments_doubt-requires-clause-store : goal.arguments_doubt-requires-clause-store
arguments_doubt-requires-clause-store g c =
    let y = checking_view c.args.checking.now in
    subst (IsStoreOver y.path.vars) (sym c.in_ok-store.ensures) (running_each (IsOver y.path.vars) y.path.stack c.requires.over.path.stores)

pub returns-in-Some-clause-answers : goal.returns-in-Some-clause-answers
returns-in-Some-clause-answers g c =
    let y = checking_view c.args.checking.now in
    let used = spec_view c.args.used.now in
    let d = doubt_view c.in-Some.doubt in
    let told = subst (λ o. IfSome o (λ k. IsUnfitDoubt y.path.vars (atoms_view c.atoms-conds.result.now) (store_view c.in_ok-store.store) used.params (doubt_view k))) c.in-Some.is c.in_ok-doubt.ensures.doubt in
    let there = subst (λ cs. IsUnfitDoubt y.path.vars cs (running_store y.path.stack) used.params d) c.atoms-conds.ensures
    (subst (λ bs. IsUnfitDoubt y.path.vars (atoms_view c.atoms-conds.result.now) bs used.params d) c.in_ok-store.ensures told) in
    ok_to c.doubted.result (λ ns. IsDoubtAlone FaultKind.CallPrecondition c.args.here.now y.path d (nexts_view ns))
    (λ ns. AnswersCall (prog_view c.args.prog.now) g.M.Local.LocalMemory.memory g.M.SymMemory.stands g.M.SymMemory.terms g.M.SymMemory.kept (entry_view c.args.spec.now c.args.entered.now) used y c.args.here.now (nexts_view ns))
    (λ ns alone. inl (d, (there, alone))) c.doubted.ensures.shows

pub returns-in-Some-clause-asked : goal.returns-in-Some-clause-asked
returns-in-Some-clause-asked g c =
    let y = checking_view c.args.checking.now in
    let used = spec_view c.args.used.now in
    let bs = running_store y.path.stack in
    let d = doubt_view c.in-Some.doubt in
    let Own = AsksSpecified (prog_view c.args.prog.now) (entry_view c.args.spec.now c.args.entered.now) used bs in
    let told = subst (λ o. IfSome o (λ k. DoubtAdds (AsksParams used.params (store_view c.in_ok-store.store)) (atoms_view c.atoms-conds.result.now) (doubt_view k))) c.in-Some.is c.in_ok-doubt.ensures.asked in
    let there : DoubtAdds (AsksParams used.params bs) y.path.conds d = subst (λ cs. DoubtAdds (AsksParams used.params bs) cs d) c.atoms-conds.ensures
    (subst (λ cs. DoubtAdds (AsksParams used.params cs) (atoms_view c.atoms-conds.result.now) d) c.in_ok-store.ensures told) in
    ok_to c.doubted.result (λ ns. IsDoubtAlone FaultKind.CallPrecondition c.args.here.now y.path d (nexts_view ns)) (λ ns. Each (AddsTo Own y.path.conds) (nexts_view ns))
    (λ ns alone. doubt_alone_adds Own FaultKind.CallPrecondition c.args.here.now y.path d (nexts_view ns) alone (doubt_to (AsksParams used.params bs) Own (λ a asks. inl asks) y.path.conds d there)) c.doubted.ensures.shows

pub returns-clause-asked : goal.returns-clause-asked
returns-clause-asked g c =
    let p = prog_view c.args.prog.now in
    let e = entry_view c.args.spec.now c.args.entered.now in
    let y = checking_view c.args.checking.now in
    let used = spec_view c.args.used.now in
    let bs = running_store y.path.stack in
    ok_to c.fitting_nexts.result (λ ns. Each (AddsTo (AsksFitting p e used bs) y.path.conds) (nexts_view ns)) (λ ns. Each (AddsTo (AsksSpecified p e used bs) y.path.conds) (nexts_view ns))
    (λ ns adds. each_to (AddsTo (AsksFitting p e used bs) y.path.conds) (AddsTo (AsksSpecified p e used bs) y.path.conds) (nexts_view ns) (λ k one. adds_to (AsksFitting p e used bs) (AsksSpecified p e used bs) (λ a asks. inr asks) y.path.conds k one) adds) c.fitting_nexts.ensures.asked
