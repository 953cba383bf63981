use Rattle.std.proofs.Common.{inl, inr, refl, subst, IfNone, IfSome}
use Rattle.sym_evaluation.specs.View.{store_view}
use Rattle.sym_states.proofs.Values.{ok_to}
use Rattle.sym_states.specs.View.{state_view}
use Rattle.checked_paths.specs.View.{checking_view, next_view, passed_view}
use Rattle.checked_paths.specs.declared.nexts.FaultKind.{FaultKind}
use Rattle.checked_rows.specs.Asked.{DoubtAdds}
use Rattle.checked_rows.specs.Asking.{AddsTo, AsksAsBefore}
use Rattle.checked_rows.specs.View.{doubt_view}
use Rattle.invariant_rows.proofs.AskedLaws.{again_adds}
use Rattle.invariant_rows.specs.Visiting.{DoubtsBefore, IsVisitedAgain, OfBefore}
use Rattle.invariant_rows.proofs.again.again.Goals as goal

pub returns-in-Some-clause-answer : goal.returns-in-Some-clause-answer
returns-in-Some-clause-answer g c =
    let stands = g.M.SymMemory.stands in
    let bs = store_view c.args.unlisted.now in
    let q = passed_view c.args.former.now in
    let s = state_view c.args.state.now in
    let right = subst (λ o. IfSome o (λ d. DoubtsBefore stands bs q s (doubt_view d))) c.in-Some.is c.in_ok-doubt.ensures.doubt in
    ok_to c.doubted_next.result _ (λ n. IsVisitedAgain stands bs q s c.args.here.now (checking_view c.args.checking.now) (next_view n))
    (λ n shows. inr (doubt_view c.in-Some.doubt, (right, shows))) c.doubted_next.ensures.shows

pub returns-in-None-clause-answer : goal.returns-in-None-clause-answer
returns-in-None-clause-answer g c =
    let stands = g.M.SymMemory.stands in
    let bs = store_view c.args.unlisted.now in
    let q = passed_view c.args.former.now in
    let s = state_view c.args.state.now in
    inl (refl, subst (λ o. IfNone o ((v : _) → OfBefore stands bs q s (λ P. P) v)) c.in-None.is c.in_ok-doubt.ensures.none)

pub returns-in-Some-clause-asked : goal.returns-in-Some-clause-asked
returns-in-Some-clause-asked g c =
    let stands = g.M.SymMemory.stands in
    let bs = store_view c.args.unlisted.now in
    let q = passed_view c.args.former.now in
    let s = state_view c.args.state.now in
    let doubt = doubt_view c.in-Some.doubt in
    let right = subst (λ o. IfSome o (λ d. DoubtsBefore stands bs q s (doubt_view d))) c.in-Some.is c.in_ok-doubt.ensures.doubt in
    let adds = subst (λ o. IfSome o (λ d. DoubtAdds AsksAsBefore s.conds (doubt_view d))) c.in-Some.is c.in_ok-doubt.ensures.asked in
    ok_to c.doubted_next.result _ (λ n. AddsTo AsksAsBefore s.conds (next_view n))
    (λ n shows. again_adds stands bs q s AsksAsBefore FaultKind.Invariant c.args.here.now (checking_view c.args.checking.now).path doubt (next_view n) right adds shows) c.doubted_next.ensures.shows
