use Rattle.std.proofs.Common.{◌≡◌, [], ◌++◌, false, refl, sym, ap, subst, ◌∙◌}
use Rattle.gil_syntax.specs.Program.{prog_view}
use Rattle.gil_syntax.specs.Pure.{loop_invariant}
use Rattle.gil_syntax.specs.View.{assertion_view}
use Rattle.sym_engine.specs.Placed.{AreAtCommands}
use Rattle.sym_paths.specs.Frames.{running_store}
use Rattle.sym_states.proofs.Values.{ok_to}
use Rattle.checked_paths.specs.declared.nexts.FaultKind.{FaultKind}
use Rattle.checked_paths.specs.View.{checking_view, entry_view, nexts_view}
use Rattle.sym_model.specs.Lists.{Each}
use Rattle.checked_paths.specs.Exactness.{AddsOnly}
use Rattle.checked_rows.specs.Asking.{MayAskAt, AsksOnlyOwn}
use Rattle.checked_rows.specs.Doubts.{always, IsDoubtAlone}
use Rattle.invariant_rows.specs.Asked.{AsksVisitThere}
use Rattle.invariant_rows.proofs.AskedLaws.{alone_adds, visits_ask}
use Rattle.checked_rows.specs.Names.{logicals_there}
use Rattle.checked_rows.specs.Rows.{AreRowOf, IsExactRowOf}
use Rattle.checked_rows.proofs.ExactLaws.{right_alone}
use Rattle.invariant_rows.specs.Listed.{have_terms}
use Rattle.invariant_rows.proofs.LeftLaws.{unlisted_is_fault}
use Rattle.invariant_rows.proofs.visiting.invariant_row.Goals as goal

pub returns-in-Some-clause-exact : goal.returns-in-Some-clause-exact
returns-in-Some-clause-exact g c =
    let p = prog_view c.args.prog.now in
    let memory = g.M.Local.LocalMemory.memory in
    let m = g.M.Local.LocalMemory.actions in
    let stands = g.M.SymMemory.stands in
    let terms = g.M.SymMemory.terms in
    let e = entry_view c.args.spec.now c.args.entered.now in
    let x = checking_view c.args.checking in
    let xs = c.args.listed.now in
    let ps = c.args.declared.now in
    let items = assertion_view c.args.items.now in
    let here = c.args.here.now in
    let none : have_terms xs (running_store x.path.stack) ≡ false = ap (λ fs. have_terms xs (running_store fs)) c.in-Some.ensures.1 ∙ (sym c.have_terms.ensures ∙ c.if-have_terms.false) in
    ok_to c.doubted.result
    (λ ns. IsDoubtAlone FaultKind.Invariant here x.path always (nexts_view ns))
    (λ ns. IsExactRowOf p memory m stands terms e x (loop_invariant xs ps items) here (nexts_view ns))
    (λ ns alone n may at this place. right_alone p memory m stands e x FaultKind.Invariant here place always
    (unlisted_is_fault p memory m stands terms e x xs ps items (logicals_there x.path.stack e.spec.logicals ++ ps) refl n at this none) (nexts_view ns) alone)
    c.doubted.ensures.shows

pub returns-clause-exact : goal.returns-clause-exact
returns-clause-exact g c =
    let p = prog_view c.args.prog.now in
    let e = entry_view c.args.spec.now c.args.entered.now in
    let x = checking_view c.args.checking in
    ok_to c.nothing.result
    (λ ns. nexts_view ns ≡ [])
    (λ ns. IsExactRowOf p g.M.Local.LocalMemory.memory g.M.Local.LocalMemory.actions g.M.SymMemory.stands g.M.SymMemory.terms e x (loop_invariant c.args.listed.now c.args.declared.now (assertion_view c.args.items.now)) c.args.here.now (nexts_view ns))
    (λ ns none n may at this place. absurd (subst (AreAtCommands p) c.in-None.ensures may.placed))
    c.nothing.ensures

pub returns-clause-next : goal.returns-clause-next
returns-clause-next g c =
    let p = prog_view c.args.prog.now in
    let e = entry_view c.args.spec.now c.args.entered.now in
    let x = checking_view c.args.checking in
    ok_to c.nothing.result
    (λ ns. nexts_view ns ≡ [])
    (λ ns. AreRowOf p g.M.Local.LocalMemory.memory g.M.Local.LocalMemory.actions g.M.SymMemory.stands g.M.SymMemory.terms e x (loop_invariant c.args.listed.now c.args.declared.now (assertion_view c.args.items.now)) [] (nexts_view ns))
    (λ ns none n may at this. absurd (subst (AreAtCommands p) c.in-None.ensures may.placed))
    c.nothing.ensures

pub returns-then-have_terms-clause-asked : goal.returns-then-have_terms-clause-asked
returns-then-have_terms-clause-asked g c =
    let p = prog_view c.args.prog.now in
    let e = entry_view c.args.spec.now c.args.entered.now in
    let x = checking_view c.args.checking in
    let xs = c.args.listed.now in
    let ps = c.args.declared.now in
    let items = assertion_view c.args.items.now in
    ok_to c.listed_row.result
    (λ ns. Each (AddsOnly (AsksVisitThere e x p (logicals_there x.path.stack e.spec.logicals ++ ps) items) x) (nexts_view ns))
    (λ ns. AsksOnlyOwn p e x (loop_invariant xs ps items) (nexts_view ns))
    (λ ns all. visits_ask e x p xs ps items (nexts_view ns) all)
    c.listed_row.ensures.asked

pub returns-in-Some-clause-asked : goal.returns-in-Some-clause-asked
returns-in-Some-clause-asked g c =
    let p = prog_view c.args.prog.now in
    let e = entry_view c.args.spec.now c.args.entered.now in
    let x = checking_view c.args.checking in
    let here = c.args.here.now in
    ok_to c.doubted.result
    (λ ns. IsDoubtAlone FaultKind.Invariant here x.path always (nexts_view ns))
    (λ ns. AsksOnlyOwn p e x (loop_invariant c.args.listed.now c.args.declared.now (assertion_view c.args.items.now)) (nexts_view ns))
    (λ ns alone n at this. alone_adds (MayAskAt p e x) FaultKind.Invariant here x always (nexts_view ns) tt alone)
    c.doubted.ensures.shows

pub returns-clause-asked : goal.returns-clause-asked
returns-clause-asked g c =
    let p = prog_view c.args.prog.now in
    let e = entry_view c.args.spec.now c.args.entered.now in
    let x = checking_view c.args.checking in
    ok_to c.nothing.result
    (λ ns. nexts_view ns ≡ [])
    (λ ns. AsksOnlyOwn p e x (loop_invariant c.args.listed.now c.args.declared.now (assertion_view c.args.items.now)) (nexts_view ns))
    (λ ns none n at this. subst (Each (AddsOnly (MayAskAt p e x) x)) (sym none) tt)
    c.nothing.ensures
