use Rattle.std.proofs.Common.{◌≡◌, [], ◌∷◌, ◌++◌, Some, sym, ap, subst, ◌∙◌}
use Rattle.std.specs.Option.{option_map}
use Rattle.gil_syntax.specs.Program.{prog_view}
use Rattle.gil_syntax.specs.View.{assertion_view}
use Rattle.sym_evaluation.specs.View.{store_view}
use Rattle.sym_states.proofs.Values.{ok_to}
use Rattle.sym_states.specs.View.{state_view}
use Rattle.checked_paths.specs.View.{checking_view, entry_view, next_view, nexts_view, passed_view}
use Rattle.invariant_rows.specs.Entering.{AreEntered}
use Rattle.invariant_rows.specs.Visiting.{AreVisits}
use Rattle.invariant_rows.proofs.VisitLaws.{assertion_made, enters, comes_again}
use Rattle.invariant_rows.proofs.FirstLaws.{enters_exact}
use Rattle.invariant_rows.proofs.AgainLaws.{again_exact}
use Rattle.sym_model.proofs.ListLaws.{each_to}
use Rattle.sym_model.specs.Lists.{Each}
use Rattle.checked_paths.specs.Exactness.{AreExact, AddsOnly}
use Rattle.checked_rows.specs.Asking.{AddsTo, AsksAsBefore}
use Rattle.invariant_rows.specs.Asked.{AsksAddingAnew, AsksVisitThere}
use Rattle.invariant_rows.proofs.AskedLaws.{adds_to, adds_only, adding_visit, before_visit}
use Rattle.sym_evaluation.specs.Meaning.{IsStoreOver}
use Rattle.checked_paths.specs.Meaning.{IsPassedOver}
use Rattle.invariant_rows.specs.Visiting.{IsLeft, IsKnown, AreExactVisits, IsFormerOver}
use Rattle.invariant_rows.proofs.LoopLaws.{unlisted_over}
use Rattle.invariant_rows.proofs.visiting.visit.Goals as goal

pub returns-in-None-clause-cover : goal.returns-in-None-clause-cover
returns-in-None-clause-cover g c =
    let p = prog_view c.args.prog.now in
    let memory = g.M.Local.LocalMemory.memory in
    let m = g.M.Local.LocalMemory.actions in
    let stands = g.M.SymMemory.stands in
    let terms = g.M.SymMemory.terms in
    let kept = g.M.SymMemory.kept in
    let e = entry_view c.args.spec.now c.args.entered.now in
    let x = checking_view c.args.checking.now in
    let xs = c.args.listed.now in
    let ps = c.args.declared.now in
    let items = assertion_view c.args.items.now in
    let bs = store_view c.args.unlisted.now in
    let s = state_view c.args.state in
    let here = c.args.here.now in
    ok_to c.first.result (λ ns. AreEntered memory stands terms kept e xs c.args.scope.now items bs here x s (nexts_view ns)) (λ ns. AreVisits p memory m stands terms e x xs ps items (option_map (λ q. passed_view q.now) c.args.former) (s ∷ []) (nexts_view ns))
    (λ ns entered.
    subst (λ o. AreVisits p memory m stands terms e x xs ps items (option_map (λ q. passed_view q.now) o) (s ∷ []) (nexts_view ns)) (sym c.in-None.is)
    (λ n may at this. enters p memory m stands terms g.met.M.SymMemory.meaning kept e x xs ps items bs c.requires.unlisted here may c.requires.may (assertion_made p x.path.stack n xs ps items c.args.prog.now.well_made at this) s c.requires.left.of_path n c.args.prog.now.valid at this (nexts_view ns)
    (subst (λ qs. AreEntered memory stands terms kept e xs qs items bs here x s (nexts_view ns)) c.requires.scope entered)))
    c.first.ensures.enters

pub returns-in-None-clause-exact : goal.returns-in-None-clause-exact
returns-in-None-clause-exact g c =
    let p = prog_view c.args.prog.now in
    let memory = g.M.Local.LocalMemory.memory in
    let m = g.M.Local.LocalMemory.actions in
    let stands = g.M.SymMemory.stands in
    let terms = g.M.SymMemory.terms in
    let kept = g.M.SymMemory.kept in
    let e = entry_view c.args.spec.now c.args.entered.now in
    let x = checking_view c.args.checking.now in
    let xs = c.args.listed.now in
    let ps = c.args.declared.now in
    let items = assertion_view c.args.items.now in
    let bs = store_view c.args.unlisted.now in
    let s = state_view c.args.state in
    let here = c.args.here.now in
    let former = option_map (λ q. passed_view q.now) c.args.former in
    let (names, (are_names, fits)) = c.requires.fits in
    ok_to c.first.result (λ ns. AreEntered memory stands terms kept e xs c.args.scope.now items bs here x s (nexts_view ns)) (λ ns. AreExactVisits p memory m stands terms e x xs ps items former here (nexts_view ns))
    (λ ns entered n may at this place.
    enters_exact p memory m stands terms g.met.M.SymMemory.meaning kept e x xs ps items bs c.requires.unlisted names are_names c.args.scope.now c.requires.scope fits n may at this here place s
    (subst (λ o. IsLeft p memory m stands terms e x xs ps items (option_map (λ q. passed_view q.now) o) s) c.in-None.is c.requires.left)
    (subst (λ o. IsKnown p memory m stands terms e x xs ps items (option_map (λ q. passed_view q.now) o)) c.in-None.is c.requires.known) (nexts_view ns) entered)
    c.first.ensures.enters

pub returns-in_ok-push-in-Some-clause-cover : goal.returns-in_ok-push-in-Some-clause-cover
returns-in_ok-push-in-Some-clause-cover g c =
    let p = prog_view c.args.prog.now in
    let memory = g.M.Local.LocalMemory.memory in
    let m = g.M.Local.LocalMemory.actions in
    let stands = g.M.SymMemory.stands in
    let terms = g.M.SymMemory.terms in
    let kept = g.M.SymMemory.kept in
    let e = entry_view c.args.spec.now c.args.entered.now in
    let x = checking_view c.args.checking.now in
    let xs = c.args.listed.now in
    let ps = c.args.declared.now in
    let items = assertion_view c.args.items.now in
    let bs = store_view c.args.unlisted.now in
    let s = state_view c.args.state in
    let here = c.args.here.now in
    let k = next_view c.in_ok-again-in-Some.field-0 in
    let is : nexts_view c.push.new.self ≡ k ∷ [] = ap nexts_view (c.in_ok-push-in-Some.ensures.ok ∙ ap (λ ns. ns ++ c.in_ok-again-in-Some.field-0 ∷ []) c.new-nexts.ensures) in
    subst (λ o. AreVisits p memory m stands terms e x xs ps items (option_map (λ q. passed_view q.now) o) (s ∷ []) (nexts_view c.push.new.self)) (sym c.in-Some.is)
    (subst (AreVisits p memory m stands terms e x xs ps items (Some (passed_view c.in-Some.former.now)) (s ∷ [])) (sym is)
    (λ n may at this. comes_again p memory m stands terms g.met.M.SymMemory.meaning kept e x xs ps items bs c.requires.unlisted here (passed_view c.in-Some.former.now) s k c.in_ok-again-in-Some.ensures.answer))

pub returns-in_ok-push-in-Some-clause-exact : goal.returns-in_ok-push-in-Some-clause-exact
returns-in_ok-push-in-Some-clause-exact g c =
    let p = prog_view c.args.prog.now in
    let memory = g.M.Local.LocalMemory.memory in
    let m = g.M.Local.LocalMemory.actions in
    let stands = g.M.SymMemory.stands in
    let terms = g.M.SymMemory.terms in
    let kept = g.M.SymMemory.kept in
    let e = entry_view c.args.spec.now c.args.entered.now in
    let x = checking_view c.args.checking.now in
    let xs = c.args.listed.now in
    let ps = c.args.declared.now in
    let items = assertion_view c.args.items.now in
    let bs = store_view c.args.unlisted.now in
    let s = state_view c.args.state in
    let here = c.args.here.now in
    let q = passed_view c.in-Some.former.now in
    let (names, (are_names, fits)) = c.requires.fits in
    let k = next_view c.in_ok-again-in-Some.field-0 in
    let is : nexts_view c.push.new.self ≡ k ∷ [] = ap nexts_view (c.in_ok-push-in-Some.ensures.ok ∙ ap (λ ns. ns ++ c.in_ok-again-in-Some.field-0 ∷ []) c.new-nexts.ensures) in
    λ n may at this place.
    subst (AreExact p memory m stands e x) (sym is) (
      again_exact p memory m stands terms g.met.M.SymMemory.meaning kept e x xs ps items bs c.requires.unlisted names are_names c.args.scope.now c.requires.scope fits n may at this here place q s
          (subst (λ o. IsLeft p memory m stands terms e x xs ps items (option_map (λ r. passed_view r.now) o) s) c.in-Some.is c.requires.left)
          (subst (λ o. IsKnown p memory m stands terms e x xs ps items (option_map (λ r. passed_view r.now) o)) c.in-Some.is c.requires.known) k c.in_ok-again-in-Some.ensures.answer,
      tt,
    )

pub again-requires-clause-unlisted : goal.again-requires-clause-unlisted
again-requires-clause-unlisted g c =
    let x = checking_view c.args.checking.now in
    subst (λ vs. IsStoreOver vs (store_view c.args.unlisted.now)) (sym c.requires.left.of_path.vars)
    (unlisted_over g.M.SymMemory.terms (entry_view c.args.spec.now c.args.entered.now) c.args.listed.now (store_view c.args.unlisted.now) x c.requires.over c.requires.unlisted)

pub again-requires-clause-former : goal.again-requires-clause-former
again-requires-clause-former g c =
    let x = checking_view c.args.checking.now in
    let terms = g.M.SymMemory.terms in
    subst (λ vs. IsPassedOver terms vs (passed_view c.in-Some.former.now)) (sym c.requires.left.of_path.vars)
    (subst (λ o. IsFormerOver terms x.path.vars (option_map (λ r. passed_view r.now) o)) c.in-Some.is c.requires.known.over)

pub again-requires-clause-over : goal.again-requires-clause-over
again-requires-clause-over g c = c.requires.left.of_path.over

pub first-requires-clause-of_path : goal.first-requires-clause-of_path
first-requires-clause-of_path g c = c.requires.left.of_path

pub returns-in-None-clause-asked : goal.returns-in-None-clause-asked
returns-in-None-clause-asked g c =
    let p = prog_view c.args.prog.now in
    let e = entry_view c.args.spec.now c.args.entered.now in
    let x = checking_view c.args.checking.now in
    let items = assertion_view c.args.items.now in
    let s = state_view c.args.state in
    let own = AsksVisitThere e x p c.args.scope.now items in
    ok_to c.first.result (λ ns. Each (AddsTo (AsksAddingAnew e x items) s.conds) (nexts_view ns)) (λ ns. Each (AddsOnly own x) (nexts_view ns))
    (λ ns all.
    each_to (AddsTo (AsksAddingAnew e x items) s.conds) (AddsOnly own x) (nexts_view ns)
    (λ k adds. adds_only own x s.conds k c.requires.own (adds_to (AsksAddingAnew e x items) own s.conds k (adding_visit e x p c.args.scope.now items) adds)) all)
    c.first.ensures.asked

pub returns-in_ok-push-in-Some-clause-asked : goal.returns-in_ok-push-in-Some-clause-asked
returns-in_ok-push-in-Some-clause-asked g c =
    let p = prog_view c.args.prog.now in
    let e = entry_view c.args.spec.now c.args.entered.now in
    let x = checking_view c.args.checking.now in
    let items = assertion_view c.args.items.now in
    let s = state_view c.args.state in
    let own = AsksVisitThere e x p c.args.scope.now items in
    let k = next_view c.in_ok-again-in-Some.field-0 in
    let is : nexts_view c.push.new.self ≡ k ∷ [] = ap nexts_view (c.in_ok-push-in-Some.ensures.ok ∙ ap (λ ns. ns ++ c.in_ok-again-in-Some.field-0 ∷ []) c.new-nexts.ensures) in
    subst (Each (AddsOnly own x)) (sym is) (
      adds_only own x s.conds k c.requires.own (adds_to AsksAsBefore own s.conds k (before_visit e x p c.args.scope.now items) c.in_ok-again-in-Some.ensures.asked),
      tt,
    )
