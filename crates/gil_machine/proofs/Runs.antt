-- The laws of runs.
use Rattle.std.proofs.Common.{◌≡◌, inl, inr, ap, sym, subst, ◌∙◌, true≢false, ℕ, zero, suc, ◌+◌, ◌<◌, ◌≤◌, List, Option, IsSome, slice_get, refl, arith}
use Rattle.gil_values.specs.Pure.{PureValue}
use Rattle.gil_syntax.specs.Pure.{PureParts}
use Rattle.mem_model.specs.Actions.{Actions}
use Rattle.gil_machine.specs.State.{State, Ending, returned, threw, failed, vanished, no_input, bad_input, cut, End, Step, goes_on, ends, IsOver, told, told_end}
use Rattle.gil_machine.specs.Step.{step}
use Rattle.gil_machine.specs.Run.{after, run, and_then, reached}
use Rattle.gil_machine.specs.Laws.{StaysOver, IsCutAtItsBound, StaysOverAsTold, IsCutAsTold, DependsOnDrawnInputs}
use Rattle.gil_machine.proofs.Steps.{Keeps, step-keeps, SameUnlessDrawn, step-inputs}

over_after : (r : Step) (f g : State → End) → ((t : State) → IsOver (g t).ending → f t ≡ g t) → IsOver (after r g).ending → after r f ≡ after r g
over_after (goes_on t) f g h over = h t over
over_after (ends e) f g h over = refl

pub stays_over : StaysOver
stays_over p m inputs zero k s le over = absurd over
stays_over p m inputs (suc n) zero s le over = absurd (omega arith)
stays_over p m inputs (suc n) (suc k) s le over = over_after (step p m inputs s) _ _ (λ t. stays_over p m inputs n k t (omega arith)) over

cut_after : (r : Step) (f : State → End) (g : State → Option State) → Keeps 0 r → ((t : State) → (f t).ending ≡ cut → IsSome (g t)) → (after r f).ending ≡ cut → IsSome (and_then r g)
cut_after (goes_on t) f g k h is = h t is
cut_after (ends e) f g k h is = absurd (subst IsOver is k.1)

cut_before : (r : Step) (f : State → End) (g : State → Option State) → ((t : State) → IsSome (g t) → (f t).ending ≡ cut) → IsSome (and_then r g) → (after r f).ending ≡ cut
cut_before (goes_on t) f g h is = h t is
cut_before (ends e) f g h is = absurd (true≢false (sym is))

module _ (p : PureParts) (m : Actions) (inputs : List PureValue) where
  cut_reaches : (n : ℕ) (s : State) → (run p m inputs n s).ending ≡ cut → IsSome (reached p m inputs n s)
  cut_reaches zero s is = refl
  cut_reaches (suc n) s is = cut_after (step p m inputs s) _ _ (step-keeps p m inputs 0 s (omega arith)) (cut_reaches n) is

  reaches_cut : (n : ℕ) (s : State) → IsSome (reached p m inputs n s) → (run p m inputs n s).ending ≡ cut
  reaches_cut zero s is = refl
  reaches_cut (suc n) s is = cut_before (step p m inputs s) _ _ (reaches_cut n) is

pub cut_at_its_bound : IsCutAtItsBound
cut_at_its_bound p m inputs n s = (cut_reaches p m inputs n s, reaches_cut p m inputs n s)

draws_after : (d : ℕ) (r : Step) (f : State → End) → Keeps d r → ((t : State) → d ≤ t.draws → d ≤ (f t).draws) → d ≤ (after r f).draws
draws_after d (goes_on t) f k h = h t k
draws_after d (ends e) f k h = k.0

module _ (p : PureParts) (m : Actions) (inputs : List PureValue) where
  draws_stay : (d n : ℕ) (s : State) → d ≤ s.draws → d ≤ (run p m inputs n s).draws
  draws_stay d zero s h = h
  draws_stay d (suc n) s h = draws_after d (step p m inputs s) _ (step-keeps p m inputs d s h) (draws_stay d n)

abbrev Agree : List PureValue → List PureValue → ℕ → Type 0
Agree inputs others d = (i : ℕ) → i < d → slice_get others i ≡ slice_get inputs i

same_after : (inputs others : List PureValue) (r : Step) (f g : State → End) → ((t : State) → Agree inputs others (g t).draws → f t ≡ g t) → Agree inputs others (after r g).draws → after r f ≡ after r g
same_after inputs others (goes_on t) f g h agree = h t agree
same_after inputs others (ends e) f g h agree = refl

module _ (p : PureParts) (m : Actions) (inputs others : List PureValue) where
  same_step : (n : ℕ) (s : State) (t : Step) → Agree inputs others (run p m inputs (suc n) s).draws → SameUnlessDrawn p m inputs others s (step p m inputs s) t → t ≡ step p m inputs s
  same_step n s t agree (inl e) = e
  same_step n s t agree (inr h) =
      let drawn : s.draws + 1 ≤ (run p m inputs (suc n) s).draws = draws_after (s.draws + 1) (step p m inputs s) _ h.0 (draws_stay p m inputs (s.draws + 1) n) in
      h.1 (agree s.draws (omega (arith, drawn)))

pub depends_on_drawn_inputs : DependsOnDrawnInputs
depends_on_drawn_inputs p m inputs others zero s agree = refl
depends_on_drawn_inputs p m inputs others (suc n) s agree =
    ap (λ t. after t (run p m others n)) (same_step p m inputs others n s _ agree (step-inputs p m inputs others s))
    ∙ same_after inputs others (step p m inputs s) _ _ (depends_on_drawn_inputs p m inputs others n) agree

-- ---- as they are told

over_if_told : (e : Ending) → IsOver (told e) → IsOver e
over_if_told (returned v) over = tt
over_if_told (threw v place) over = tt
over_if_told (failed v place) over = tt
over_if_told vanished over = tt
over_if_told (no_input k) over = tt
over_if_told (bad_input k) over = tt
over_if_told cut over = absurd over

cut_if_told : (e : Ending) → told e ≡ cut → e ≡ cut
cut_if_told (returned v) is = absurd (cc)
cut_if_told (threw v place) is = absurd (cc)
cut_if_told (failed v place) is = absurd (cc)
cut_if_told vanished is = absurd (cc)
cut_if_told (no_input k) is = absurd (cc)
cut_if_told (bad_input k) is = absurd (cc)
cut_if_told cut is = refl

pub stays_over_as_told : StaysOverAsTold
stays_over_as_told p m inputs n k s le over = ap told_end (stays_over p m inputs n k s le (over_if_told (run p m inputs n s).ending over))

pub is_cut_as_told : IsCutAsTold
is_cut_as_told p m inputs n s = (
  (λ is. cut_reaches p m inputs n s (cut_if_told (run p m inputs n s).ending is)),
  (λ there. ap told (reaches_cut p m inputs n s there)),
)
