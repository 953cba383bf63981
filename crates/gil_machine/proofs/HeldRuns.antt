-- Runs in 128 bits.
use Rattle.std.proofs.Common.{◌≡◌, ℕ, zero, suc, ◌<◌, List, Option, Some, None, refl, sym, ap, subst, ◌∙◌, arith}
use Rattle.std.proofs.lemmas.Option.{same_Some}
use Rattle.gil_values.specs.declared.places.Place.{Place}
use Rattle.gil_values.specs.Pure.{PureValue}
use Rattle.gil_syntax.specs.Pure.{PureParts}
use Rattle.mem_model.specs.Heaps.{Heap}
use Rattle.mem_model.specs.Actions.{Actions}
use Rattle.gil_machine.specs.State.{State, Step, goes_on, ends, End}
use Rattle.gil_machine.specs.Step.{step}
use Rattle.gil_machine.specs.Run.{after, run, and_then, reached}
use Rattle.gil_machine.specs.Held.{number_at, HeldEnd, ended, number, number_or, after_held_step, held_run}
use Rattle.gil_machine.specs.Laws.{HeldRunsAreRuns, IsFirstNumber, NumbersAreFirst}

-- ---- a run without such a number

run_by : (o : Option Place) (r : Step) (s : State) (f : State → HeldEnd) (g : State → End) (e : End)
    → ((t : State) → f t ≡ ended e → g t ≡ e) → number_or o s (after_held_step r f) ≡ ended e → after r g ≡ e
run_by (Some place) r s f g e same is = absurd (cc)
run_by None (goes_on t) s f g e same is = same t is
run_by None (ends d) s f g e same is = cc

pub held_runs_are_runs : HeldRunsAreRuns
held_runs_are_runs p m inputs zero s e is = cc
held_runs_are_runs p m inputs (suc n) s e is = run_by (number_at p s) (step p m inputs s) s (held_run p m inputs n) (run p m inputs n) e (λ t. held_runs_are_runs p m inputs n t e) is

-- ---- the first such number

module _ (p : PureParts) (m : Actions) (inputs : List PureValue) where
  before : (s t : State) (steps : ℕ) → number_at p s ≡ None → step p m inputs s ≡ goes_on t
      → ((k : ℕ) (u : State) → k < steps → reached p m inputs k t ≡ Some u → number_at p u ≡ None)
      → (k : ℕ) (u : State) → k < suc steps → reached p m inputs k s ≡ Some u → number_at p u ≡ None
  before s t steps here goes behind zero u lt is = ap (number_at p) (sym (same_Some _ _ is)) ∙ here
  before s t steps here goes behind (suc k) u lt is = behind k u (omega (arith, lt)) (sym (ap (λ r. and_then r (reached p m inputs k)) goes) ∙ is)

  later_first : (n : ℕ) (s t : State) (place : Place) (h : Heap) → number_at p s ≡ None → step p m inputs s ≡ goes_on t
      → IsFirstNumber p m inputs n t place h → IsFirstNumber p m inputs (suc n) s place h
  later_first n s t place h here goes first = record {
    steps = suc first.steps;
    within = let within = first.within in omega (arith, within);
    state = first.state;
    reached_there = ap (λ r. and_then r (reached p m inputs first.steps)) goes ∙ first.reached_there;
    at_place = first.at_place;
    heap = first.heap;
    none_before = before s t first.steps here goes first.none_before;
  }

  first_now : (n : ℕ) (s : State) (place : Place) → number_at p s ≡ Some place → IsFirstNumber p m inputs (suc n) s place s.heap
  first_now n s place here = record {
    steps = 0;
    within = omega arith;
    state = s;
    reached_there = refl;
    at_place = here;
    heap = refl;
    none_before = λ k t lt is. absurd (omega (arith, lt));
  }

  -- by what stands at the state and what the step does
  only_by : (n : ℕ) (s : State) (place : Place) (h : Heap) (o : Option Place) (r : Step) → number_at p s ≡ o → step p m inputs s ≡ r
      → ((t : State) → held_run p m inputs n t ≡ number place h → IsFirstNumber p m inputs n t place h)
      → number_or o s (after_held_step r (held_run p m inputs n)) ≡ number place h → IsFirstNumber p m inputs (suc n) s place h
  only_by n s place h (Some other) r here goes first is =
      let place_is : other ≡ place = cc in
      let heap_is : s.heap ≡ h = cc in
      subst (λ g. IsFirstNumber p m inputs (suc n) s place g) heap_is (first_now n s place (here ∙ ap Some place_is))
  only_by n s place h None (goes_on t) here goes first is = later_first n s t place h here goes (first t is)
  only_by n s place h None (ends e) here goes first is = absurd (cc)

  only_first : (n : ℕ) (s : State) (place : Place) (h : Heap) → held_run p m inputs n s ≡ number place h → IsFirstNumber p m inputs n s place h
  only_first zero s place h is = absurd (cc)
  only_first (suc n) s place h is = only_by n s place h (number_at p s) (step p m inputs s) refl refl (λ t. only_first n t place h) is

  -- the first number, said of how many steps lead there
  each_by : (n steps : ℕ) (s u : State) (place : Place) (h : Heap) (r : Step) → step p m inputs s ≡ r
      → ((t : State) → reached p m inputs steps t ≡ Some u → ((k : ℕ) (w : State) → k < steps → reached p m inputs k t ≡ Some w → number_at p w ≡ None) → held_run p m inputs n t ≡ number place h)
      → and_then r (reached p m inputs steps) ≡ Some u
      → ((k : ℕ) (w : State) → k < suc steps → reached p m inputs k s ≡ Some w → number_at p w ≡ None)
      → number_or (number_at p s) s (after_held_step r (held_run p m inputs n)) ≡ number place h
  each_by n steps s u place h (goes_on t) goes each there none =
      let here : number_at p s ≡ None = none 0 s (omega arith) refl in
      ap (λ o. number_or o s (held_run p m inputs n t)) here
      ∙ each t there (λ k w lt is. none (suc k) w (omega (arith, lt)) (ap (λ r. and_then r (reached p m inputs k)) goes ∙ is))
  each_by n steps s u place h (ends e) goes each there none = absurd (cc)

  each_first : (n steps : ℕ) (s u : State) (place : Place) (h : Heap) → steps < n → reached p m inputs steps s ≡ Some u
      → number_at p u ≡ Some place → u.heap ≡ h
      → ((k : ℕ) (w : State) → k < steps → reached p m inputs k s ≡ Some w → number_at p w ≡ None)
      → held_run p m inputs n s ≡ number place h
  each_first zero steps s u place h lt there is heap none = absurd (omega (arith, lt))
  each_first (suc n) zero s u place h lt there is heap none =
      let same : s ≡ u = same_Some _ _ there in
      ap (λ o. number_or o s (after_held_step (step p m inputs s) (held_run p m inputs n))) (ap (number_at p) same ∙ is)
      ∙ ap (number place) (ap (λ t. t.heap) same ∙ heap)
  each_first (suc n) (suc steps) s u place h lt there is heap none =
      each_by n steps s u place h (step p m inputs s) refl
      (λ t reached_u none_t. each_first n steps t u place h (omega (arith, lt)) reached_u is heap none_t) there none

pub numbers_are_first : NumbersAreFirst
numbers_are_first = record {
  only = λ p m inputs n s place h is. only_first p m inputs n s place h is;
  each = λ p m inputs n s place h first. each_first p m inputs n first.steps s first.state place h first.within first.reached_there first.at_place first.heap first.none_before;
}
