-- What is shown of a cause that was found is one of the specification.
use Rattle.std.proofs.Common.{◌≡◌, ◌⊎◌, inl, inr, ℕ, List, [], Some, refl, sym, subst}
use Rattle.gil_values.specs.Pure.{PureValue}
use Rattle.gil_syntax.specs.Pure.{PureParts, PureSpec}
use Rattle.mem_model.specs.declared.keys.MemoryName.{MemoryName}
use Rattle.mem_model.specs.Actions.{Actions}
use Rattle.checked_runs.specs.Checked.{Outcome}
use Rattle.pure_terms.specs.declared.deciders.Reason.{Reason}
use Rattle.pure_terms.specs.declared.variables.Sort.{Sort}
use Rattle.pure_terms.specs.Fragment.{InFragment}
use Rattle.pure_terms.specs.Meaning.{IsProper, Satisfies, IsUnsatisfiable}
use Rattle.pure_terms.specs.Pure.{PureAtom}
use Rattle.sym_witness.specs.Numbering.{IsNumbered}
use Rattle.checked_paths.specs.Causes.{PureShown, PureCause, failure, fault, bound, undecided}
use Rattle.checked_paths.specs.Pure.{PureEntry}
use Rattle.spec_causes.specs.Causes.{MeetsAbove, MayBeMet, ShowsMeeting, ComesSurely, ComesToBound, IsOnTheWay, IsOpen, IsCauseOf}
use Rattle.spec_causes.specs.Reaching.{IsFoundCause}
use Rattle.spec_causes.specs.Showing.{IsCanonicalLike, IsLeftOpen, HasValuation, IsShownAs}
use Rattle.spec_causes.proofs.Canonical.{numbered_in_turn}

-- ---- valuations

pub numbered_like : (vars : List Sort) (counter : ℕ) (v w : List PureValue) → IsProper vars v → IsNumbered vars counter v w → IsCanonicalLike vars v w
numbered_like vars counter v w proper is = record {
  counter = counter;
  in_turn = numbered_in_turn counter vars w (is.meets [] (record { proper = proper; true_there = refl })).proper is.fresh_follow is.others_below;
  meets = is.meets;
}

pub told_met : (vars : List Sort) (atoms : List PureAtom) (v w : List PureValue) → Satisfies vars v atoms → IsCanonicalLike vars v w → (counter : ℕ) × MeetsAbove counter vars atoms w
told_met vars atoms v w meets like = (like.counter, record { in_turn = like.in_turn; meets = like.meets atoms meets })

pub has_valuation : (before after : PureShown) (w : List PureValue) → after ≡ record before { valuation = Some w } → (counter : ℕ) × MeetsAbove counter before.vars before.conds w → HasValuation before after
has_valuation before after w same (counter, meets) = record { valuation = w; same_else = same; counter = counter; meets = meets }

-- ---- causes

shows_meeting : (before after : PureShown) → HasValuation before after → ShowsMeeting after
shows_meeting before after has = subst ShowsMeeting (sym has.same_else) (record { valuation = has.valuation; is_shown = refl; counter = has.counter; meets = has.meets })

module _ (p : PureParts) (memory : MemoryName) (m : Actions) (e : PureEntry) (most : ℕ) where
  abbrev Surely : (List PureValue → Outcome → Type 0) → PureShown → Type 0
  Surely = ComesSurely p memory m e most

  surely_same : (Is : List PureValue → Outcome → Type 0) (before after : PureShown) → HasValuation before after → Surely Is before → Surely Is after
  surely_same Is before after has comes = subst (Surely Is) (sym has.same_else) (record { steps = comes.steps; within = comes.within; runs = comes.runs })

  bound_same : (before after : PureShown) → HasValuation before after → ComesToBound p memory m e most before → ComesToBound p memory m e most after
  bound_same before after has comes = subst (ComesToBound p memory m e most) (sym has.same_else) comes

  not_inside : (shown : PureShown) (reason : Reason) → MayBeMet shown.vars shown.conds → IsLeftOpen shown reason → ¬ InFragment shown.conds
  not_inside shown reason may left = by may left.outside
    where
      by : MayBeMet shown.vars shown.conds → (¬ InFragment shown.conds) ⊎ IsUnsatisfiable shown.vars shown.conds → ¬ InFragment shown.conds
      by may (inl outside) = outside
      by (inr outside) (inr none) = outside
      by (inl (w, meets)) (inr none) = absurd (none w meets)

  left_open : (shown : PureShown) (reason : Reason) → MayBeMet shown.vars shown.conds → IsOnTheWay p memory m e most shown → IsLeftOpen shown reason → IsOpen p memory m e most reason shown
  left_open shown reason may way left = record { outside = not_inside shown reason may left; first = left.first; way = inr way }

  module _ (spec : PureSpec) (of_spec : e.spec ≡ spec) where
    abbrev Cause : PureCause → Type 0
    Cause = IsCauseOf p memory m spec most e

    open_cause : (before : PureShown) (reason : Reason) (after : PureShown) → after ≡ before → IsOpen p memory m e most reason before → Cause (undecided reason after)
    open_cause before reason after same is = record { of_spec = of_spec; runs = subst (IsOpen p memory m e most reason) (sym same) is; shows = tt }

    pub cause_shown : (before after : PureCause) → IsFoundCause p memory m e most before → IsShownAs before after → Cause after
    cause_shown (undecided q shown) after found is = subst Cause (sym is) (record { of_spec = of_spec; runs = found.runs; shows = tt })
    cause_shown (failure t shown) (failure u after) found (same, has) =
        subst (λ r. Cause (failure r after)) (sym same) (record { of_spec = of_spec; runs = surely_same _ shown after has found.runs; shows = shows_meeting shown after has })
    cause_shown (fault kind shown) (fault k after) found (same, has) =
        subst (λ r. Cause (fault r after)) (sym same) (record { of_spec = of_spec; runs = surely_same _ shown after has found.runs; shows = shows_meeting shown after has })
    cause_shown (bound shown) (bound after) found has = record { of_spec = of_spec; runs = bound_same shown after has found.runs; shows = shows_meeting shown after has }
    cause_shown (failure t shown) (undecided reason after) found (same, left) = open_cause shown reason after same (left_open shown reason found.may_be_met found.way left)
    cause_shown (fault kind shown) (undecided reason after) found (same, left) = open_cause shown reason after same (left_open shown reason found.may_be_met found.way left)
    cause_shown (bound shown) (undecided reason after) found (same, left) = open_cause shown reason after same (left_open shown reason found.may_be_met found.way left)
    cause_shown (failure t shown) (fault k after) found is = absurd is
    cause_shown (failure t shown) (bound after) found is = absurd is
    cause_shown (fault kind shown) (failure u after) found is = absurd is
    cause_shown (fault kind shown) (bound after) found is = absurd is
    cause_shown (bound shown) (failure u after) found is = absurd is
    cause_shown (bound shown) (fault k after) found is = absurd is
