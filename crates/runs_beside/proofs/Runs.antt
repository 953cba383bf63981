-- Runs beside a rest of the heap.
use Rattle.std.proofs.Common.{◌≡◌, ◌⊎◌, ⊎_elim, inl, inr, ℕ, zero, suc, ◌<◌, List, true, Option, Some, None, refl, sym, ap, subst, ◌∙◌, arith}
use Rattle.gil_values.specs.Pure.{PureValue}
use Rattle.gil_syntax.specs.Pure.{PureParts}
use Rattle.gil_syntax.specs.WellMade.{is_well_made}
use Rattle.mem_model.specs.declared.keys.Key.{Key}
use Rattle.mem_model.specs.declared.keys.MemoryName.{MemoryName}
use Rattle.mem_model.specs.Heaps.{Heap, IsCompatible}
use Rattle.mem_model.specs.Actions.{Actions, IsMemory}
use Rattle.mem_model.proofs.Joins.{join_holds_both}
use Rattle.gil_machine.specs.State.{State, IsFailed, End, Step, goes_on, ends}
use Rattle.gil_machine.specs.Beside.{beside, end_beside, step_beside, heap_after}
use Rattle.gil_machine.specs.Choices.{miss_at}
use Rattle.gil_machine.specs.Proper.{IsProperState, IsProperStep}
use Rattle.gil_machine.specs.Run.{after, run, and_then, reached}
use Rattle.gil_machine.specs.Step.{step}
use Rattle.gil_machine.proofs.Beside.{steps_are_local, misses_fail}
use Rattle.gil_machine.proofs.Proper.{stays_proper}
use Rattle.runs_beside.specs.Laws.{StandsBeside, MissesNothing, MissesBeside, EndsBeside, StatesAreLocal, RunsAreLocal, RunsWithoutAMissAreLocal, RunsWithoutAFailureAreLocal}

none_is_some : {X : Type 0} {G : Type 0} (x : X) → None ≡ Some x → G
none_is_some x is = absurd (cc)

some_is_some : {X : Type 0} (x y : X) → Some x ≡ Some y → x ≡ y
some_is_some x y is = cc

-- what stands beside a rest is proper without it
pub proper_alone : (memory : MemoryName) (s : State) (rest : Heap) → StandsBeside memory s rest → IsProperState memory s
proper_alone memory s rest stands = record {
  heap = stands.heap;
  heap_below = λ k v is. stands.proper.heap_below k v ((join_holds_both s.heap rest stands.compatible.disjoint).first k v is);
  current_below = stands.proper.current_below;
  callers_below = stands.proper.callers_below;
}

module _ (p : PureParts) (memory : MemoryName) (m : Actions) (inputs : List PureValue) (rest : Heap) (made : is_well_made p ≡ true) (is_memory : IsMemory memory m) where
  -- ---- a step

  -- the next state stands beside the rest, and the heap of an end is compatible with it
  abbrev LeadsBeside : Step → Type 0
  LeadsBeside (goes_on t) = StandsBeside memory t rest
  LeadsBeside (ends e) = IsCompatible e.heap rest

  record StepsBeside (s : State) : Type 0 where
    same : step p m inputs (beside rest s) ≡ step_beside rest (step p m inputs s)
    leads : LeadsBeside (step p m inputs s)

  leads_beside : (s : State) (st : Step) → StandsBeside memory s rest → IsCompatible (heap_after st) rest → IsProperStep memory st → IsProperStep memory (step_beside rest st) → LeadsBeside st
  leads_beside s (goes_on t) stands compatible alone together = record { heap = alone.heap; rest_heap = stands.rest_heap; compatible = compatible; proper = together }
  leads_beside s (ends e) stands compatible alone together = compatible

  steps_beside : (s : State) → StandsBeside memory s rest → miss_at p m s ≡ None → StepsBeside s
  steps_beside s stands none =
      let local = steps_are_local p memory m inputs s rest made is_memory stands.heap stands.rest_heap stands.compatible stands.proper none in
      let alone = stays_proper p memory m inputs s made is_memory (proper_alone memory s rest stands) in
      let together = stays_proper p memory m inputs (beside rest s) made is_memory stands.proper in
      record { same = local.same; leads = leads_beside s (step p m inputs s) stands local.compatible alone (subst (IsProperStep memory) local.same together) }

  -- ---- states that are reached

  -- a state from which the run goes on misses nothing
  no_miss : (k : ℕ) (s t : State) → reached p m inputs (suc k) s ≡ Some t → miss_at p m s ≡ None
  no_miss k s t there = by (miss_at p m s) refl
    where
      by : (o : Option Key) → miss_at p m s ≡ o → miss_at p m s ≡ None
      by None is = is
      by (Some key) is =
          let (choice, (e, (place, (ends_so, fails)))) = misses_fail p m inputs s key is in
          none_is_some t (sym (ap (λ st. and_then st (reached p m inputs k)) ends_so) ∙ there)

  abbrev ReachedBeside : ℕ → State → State → Type 0
  ReachedBeside k s t = (reached p m inputs k (beside rest s) ≡ Some (beside rest t)) × StandsBeside memory t rest

  states_beside : (k : ℕ) (s t : State) → StandsBeside memory s rest → reached p m inputs k s ≡ Some t → ReachedBeside k s t
  states_beside zero s t stands there = let same = some_is_some s t there in (ap (λ u. Some (beside rest u)) same, subst (λ u. StandsBeside memory u rest) same stands)
  states_beside (suc k) s t stands there =
      let taken = steps_beside s stands (no_miss k s t there) in
      by (step p m inputs s) taken.same taken.leads (λ u below later. states_beside k u t below later) there
    where
      by : (st : Step) → step p m inputs (beside rest s) ≡ step_beside rest st → LeadsBeside st → ((u : State) → StandsBeside memory u rest → reached p m inputs k u ≡ Some t → ReachedBeside k u t) → and_then st (reached p m inputs k) ≡ Some t → ReachedBeside (suc k) s t
      by (goes_on u) same leads later there = let next = later u leads there in (ap (λ st. and_then st (reached p m inputs k)) same ∙ next.0, next.1)
      by (ends e) same leads later there = none_is_some t there

  -- ---- runs

  -- a run that misses nothing after a first step that misses nothing
  misses_nothing : (n : ℕ) (s : State) → miss_at p m s ≡ None → ((u : State) → step p m inputs s ≡ goes_on u → MissesNothing p m inputs n u) → MissesNothing p m inputs (suc n) s
  misses_nothing n s none later zero t within there = ap (miss_at p m) (sym (some_is_some s t there)) ∙ none
  misses_nothing n s none later (suc k) t within there = by (step p m inputs s) refl there
    where
      by : (st : Step) → step p m inputs s ≡ st → and_then st (reached p m inputs k) ≡ Some t → miss_at p m t ≡ None
      by (goes_on u) is there = later u is k t (omega (arith, within)) there
      by (ends e) is there = none_is_some t there

  abbrev IsLocalRun : ℕ → State → Type 0
  IsLocalRun n s = MissesBeside p memory m inputs n s rest ⊎ EndsBeside p m inputs n s rest

  abbrev AreLocalRuns : ℕ → Type 0
  AreLocalRuns n = (s : State) → StandsBeside memory s rest → IsLocalRun n s

  missed_here : (n : ℕ) (s : State) (key : Key) → StandsBeside memory s rest → miss_at p m s ≡ Some key → MissesBeside p memory m inputs (suc n) s rest
  missed_here n s key stands is = record {
    steps = 0;
    within = omega arith;
    state = s;
    reached_alone = refl;
    key = key;
    misses = is;
    reached_beside = refl;
    stands = stands;
  }

  missed_later : (n : ℕ) (s u : State) → step p m inputs s ≡ goes_on u → step p m inputs (beside rest s) ≡ goes_on (beside rest u) → MissesBeside p memory m inputs n u rest → MissesBeside p memory m inputs (suc n) s rest
  missed_later n s u alone together later = record {
    steps = suc later.steps;
    within = let within = later.within in omega (arith, within);
    state = later.state;
    reached_alone = ap (λ st. and_then st (reached p m inputs later.steps)) alone ∙ later.reached_alone;
    key = later.key;
    misses = later.misses;
    reached_beside = ap (λ st. and_then st (reached p m inputs later.steps)) together ∙ later.reached_beside;
    stands = later.stands;
  }

  ends_later : (n : ℕ) (s u : State) → miss_at p m s ≡ None → step p m inputs s ≡ goes_on u → step p m inputs (beside rest s) ≡ goes_on (beside rest u) → EndsBeside p m inputs n u rest → EndsBeside p m inputs (suc n) s rest
  ends_later n s u none alone together later =
      let run_alone : run p m inputs (suc n) s ≡ run p m inputs n u = ap (λ st. after st (run p m inputs n)) alone in
      record {
        misses_nothing = misses_nothing n s none (λ t is. subst (MissesNothing p m inputs n) (next_is u t (sym alone ∙ is)) later.misses_nothing);
        same = ap (λ st. after st (run p m inputs n)) together ∙ later.same ∙ ap (end_beside rest) (sym run_alone);
        compatible = subst (λ e. IsCompatible e.heap rest) (sym run_alone) later.compatible;
      }
    where
      next_is : (u t : State) → goes_on u ≡ goes_on t → u ≡ t
      next_is u t is = cc

  ends_here : (n : ℕ) (s : State) (e : End) → miss_at p m s ≡ None → step p m inputs s ≡ ends e → step p m inputs (beside rest s) ≡ ends (end_beside rest e) → IsCompatible e.heap rest → EndsBeside p m inputs (suc n) s rest
  ends_here n s e none alone together compatible =
      let run_alone : run p m inputs (suc n) s ≡ e = ap (λ st. after st (run p m inputs n)) alone in
      record {
        misses_nothing = misses_nothing n s none (λ t is. no_next t (sym alone ∙ is));
        same = ap (λ st. after st (run p m inputs n)) together ∙ ap (end_beside rest) (sym run_alone);
        compatible = subst (λ f. IsCompatible f.heap rest) (sym run_alone) compatible;
      }
    where
      no_next : {G : Type 0} (t : State) → ends e ≡ goes_on t → G
      no_next t is = absurd (cc)

  runs_beside : (n : ℕ) (s : State) → StandsBeside memory s rest → IsLocalRun n s
  runs_beside zero s stands = inr (record { misses_nothing = λ k t within there. absurd (omega (arith, within)); same = refl; compatible = stands.compatible })
  runs_beside (suc n) s stands = by_miss (λ u below. runs_beside n u below) (miss_at p m s) refl
    where
      by_step : AreLocalRuns n → miss_at p m s ≡ None → (st : Step) → step p m inputs s ≡ st → step p m inputs (beside rest s) ≡ step_beside rest st → LeadsBeside st → IsLocalRun (suc n) s
      by_step later none (goes_on u) alone together leads = ⊎_elim (λ missed. inl (missed_later n s u alone together missed)) (λ over. inr (ends_later n s u none alone together over)) (later u leads)
      by_step later none (ends e) alone together leads = inr (ends_here n s e none alone together leads)

      by_miss : AreLocalRuns n → (o : Option Key) → miss_at p m s ≡ o → IsLocalRun (suc n) s
      by_miss later (Some key) is = inl (missed_here n s key stands is)
      by_miss later None is = let taken = steps_beside s stands is in by_step later is (step p m inputs s) refl taken.same taken.leads

pub states_are_local : StatesAreLocal
states_are_local p memory m inputs s rest made is_memory stands k t there = states_beside p memory m inputs rest made is_memory k s t stands there

pub runs_are_local : RunsAreLocal
runs_are_local p memory m inputs s rest made is_memory stands n = runs_beside p memory m inputs rest made is_memory n s stands

pub runs_without_a_miss_are_local : RunsWithoutAMissAreLocal
runs_without_a_miss_are_local p memory m inputs s rest made is_memory stands n none =
    ⊎_elim (λ missed. none_is_some missed.key (sym (none missed.steps missed.state missed.within missed.reached_alone) ∙ missed.misses)) (λ over. over) (runs_are_local p memory m inputs s rest made is_memory stands n)

-- a run that misses a key fails
module _ (p : PureParts) (m : Actions) (inputs : List PureValue) where
  missed_fails : (k n : ℕ) (s t : State) (key : Key) → k < n → reached p m inputs k s ≡ Some t → miss_at p m t ≡ Some key → IsFailed (run p m inputs n s).ending
  missed_fails k zero s t key within there is = absurd (omega (arith, within))
  missed_fails zero (suc n) s t key within there is =
      let (choice, (e, (place, (ends_so, fails)))) = misses_fail p m inputs s key (ap (miss_at p m) (some_is_some s t there) ∙ is) in
      subst (λ st. IsFailed (after st (run p m inputs n)).ending) (sym ends_so) (subst IsFailed (sym fails) tt)
  missed_fails (suc k) (suc n) s t key within there is = by (λ u later. missed_fails k n u t key (omega (arith, within)) later is) (step p m inputs s) there
    where
      by : ((u : State) → reached p m inputs k u ≡ Some t → IsFailed (run p m inputs n u).ending) → (st : Step) → and_then st (reached p m inputs k) ≡ Some t → IsFailed (after st (run p m inputs n)).ending
      by below (goes_on u) there = below u there
      by below (ends e) there = none_is_some t there

pub runs_without_a_failure_are_local : RunsWithoutAFailureAreLocal
runs_without_a_failure_are_local p memory m inputs s rest made is_memory stands n sound =
    ⊎_elim (λ missed. absurd (sound (missed_fails p m inputs missed.steps n s missed.state missed.key missed.within missed.reached_alone missed.misses))) (λ over. over) (runs_are_local p memory m inputs s rest made is_memory stands n)
