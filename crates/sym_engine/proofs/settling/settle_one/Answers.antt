use Rattle.std.proofs.Common.{inl, inr, sym, subst, ◌∙◌, IfSome, IfNone}
use Rattle.pure_terms.specs.Deciding.{IsRight}
use Rattle.pure_terms.specs.Laws.{AreEachInFragment}
use Rattle.pure_terms.specs.View.{atoms_view, decision_view}
use Rattle.sym_engine.specs.View.{candidate_view}
use Rattle.sym_engine.proofs.Settled.{stays_unasked, stays_met, stays_unknown, needs_some, needs_outside, named_first}
use Rattle.sym_engine.proofs.settling.settle_one.Goals.{in-Some-2, in-None-2, else-not-open-via-then-not-open+else-len-old, else-not-open-via-else-not-open}
use Rattle.sym_engine.proofs.settling.settle_one.Goals as goal
use Rattle.sym_paths.specs.Steps.{IsFirstOutside}

pub returns-then-len-old : goal.returns-then-len-old
returns-then-len-old g c = λ p path stands after.
    stays_unasked p path (candidate_view c.args.candidate) c.args.here.now c.args.old c.atoms-atoms.result.now stands c.atoms-atoms.ensures after
    (sym c.len.ensures ∙ c.if-len-old.true) (sym c.needs_form-open.ensures ∙ c.if-not-open.true)

pub returns-then-not-open-2 : goal.returns-then-not-open-2
returns-then-not-open-2 g c = λ p path stands after.
    let right = subst (λ d. IsRight c.args.candidate.path.vars (atoms_view c.atoms-atoms.result.now) (decision_view d)) c.in-Sat.is c.in_ok-decide.ensures in
    stays_met p path (candidate_view c.args.candidate) c.args.here.now c.args.old c.atoms-atoms.result.now stands c.atoms-atoms.ensures _ right.0
    (sym c.needs_form-open.ensures ∙ c.if-not-open-2.true)

pub unreachable-requires : goal.unreachable-requires
unreachable-requires g c =
    needs_some c.atoms-atoms.result.now (sym c.needs_form-open.ensures ∙ c.if-not-open-2.false)
    (subst (λ o. IfNone o (AreEachInFragment (atoms_view c.atoms-atoms.result.now))) c.in-None.is c.in_ok-reason-in-Sat.ensures.none)

pub returns-in_ok-leave_unknown-in-Some : goal.returns-in_ok-leave_unknown-in-Some
returns-in_ok-leave_unknown-in-Some g c = λ p path stands after.
    stays_unknown p path (candidate_view c.args.candidate) c.args.here.now c.args.old c.atoms-atoms.result.now stands c.atoms-atoms.ensures after
    (inl (sym c.needs_form-open.ensures ∙ c.if-not-open-2.false)) c.in-Some.reason _
    (needs_outside c.atoms-atoms.result.now (sym c.needs_form-open.ensures ∙ c.if-not-open-2.false))
    (subst (λ o. IfSome o (IsFirstOutside (atoms_view c.atoms-atoms.result.now))) c.in-Some.is c.in_ok-reason-in-Sat.ensures.first)
    c.in_ok-leave_unknown-in-Some.ensures

pub returns-in_ok-leave_unknown-in-Unknown : goal.returns-in_ok-leave_unknown-in-Unknown
returns-in_ok-leave_unknown-in-Unknown g c = λ p path stands after.
    let right = subst (λ d. IsRight c.args.candidate.path.vars (atoms_view c.atoms-atoms.result.now) (decision_view d)) c.in-Unknown.is c.in_ok-decide.ensures in
    stays_unknown p path (candidate_view c.args.candidate) c.args.here.now c.args.old c.atoms-atoms.result.now stands c.atoms-atoms.ensures after
    (elim c.else-not-open.branch [
      | else-not-open-via-then-not-open+else-len-old w ↦ inr (λ same. w.if-len-old.false (w.len.ensures ∙ same))
      | else-not-open-via-else-not-open w ↦ inl (sym c.needs_form-open.ensures ∙ w.if-not-open.false)
    ])
    c.match-branch-7.reason _ right.0
    (elim c.match-branch-7.branch [
      | in-Some-2 w ↦ subst (IsFirstOutside (atoms_view c.atoms-atoms.result.now)) (sym w.reason-is)
          (subst (λ o. IfSome o (IsFirstOutside (atoms_view c.atoms-atoms.result.now))) w.in-Some-2.is c.in_ok-reason-in-Unknown.ensures.first)
      | in-None-2 w ↦ subst (IsFirstOutside (atoms_view c.atoms-atoms.result.now)) (sym w.reason-is)
          (named_first (atoms_view c.atoms-atoms.result.now) c.in-Unknown.named right.1 (subst (λ o. IfNone o (AreEachInFragment (atoms_view c.atoms-atoms.result.now))) w.in-None-2.is c.in_ok-reason-in-Unknown.ensures.none))
    ])
    c.in_ok-leave_unknown-in-Unknown.ensures
