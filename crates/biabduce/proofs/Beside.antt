-- Runs from a part of a heap: up to a key that is missed they are those from the whole of it, which goes on there.
use Rattle.std.proofs.Common.{◌≡◌, ◌⊎◌, ⊎_elim, inl, inr, ℕ, suc, ◌≤◌, List, Bool, true, false, Option, Some, None, Ok, Err, codes, refl, sym, ap, subst, ◌∙◌, arith}
use Rattle.std.specs.Cmp.{first_so, second_so}
use Rattle.std.specs.List.{list_all}
use Rattle.std.specs.Option.{option_and_then}
use Rattle.gil_values.specs.declared.places.Place.{Place}
use Rattle.gil_values.specs.Pure.{PureValue, text}
use Rattle.gil_syntax.specs.Evaluation.{Outcomes, evaluate_all}
use Rattle.gil_syntax.specs.Programs.{find_proc}
use Rattle.gil_syntax.specs.Pure.{PureCommand, PureExpr, assign, call, act, usym, isym, ifgoto, return, fail, throw, vanish, fold_use, unfold_use, assert_that, loop_invariant, PureNumberedCommand, PureParts}
use Rattle.gil_syntax.specs.Subexpressions.{exprs_of}
use Rattle.gil_syntax.specs.WellMade.{is_well_made_expr, has_well_made_names, is_well_made_proc, is_well_made_pred, is_well_made}
use Rattle.gil_machine.specs.Beside.{beside, end_beside, step_beside}
use Rattle.gil_machine.specs.Choices.{of_values, missed_key, result_of, miss_at}
use Rattle.gil_machine.specs.Laws.{handed}
use Rattle.gil_machine.specs.Run.{run, reached}
use Rattle.gil_machine.specs.State.{Ending, returned, threw, failed, vanished, no_input, bad_input, cut, State, End, IsFailed, IsOver, Step, ends, end_at}
use Rattle.gil_machine.specs.Step.{action_result, counted, command_at, after_action, do_action, do_command, step_at, step, with_values}
use Rattle.gil_machine.proofs.Beside.{steps_are_local, misses_fail}
use Rattle.gil_machine.proofs.Proper.{MadeCommand, command_made, find_made, may_act_where_reached}
use Rattle.gil_machine.proofs.Steps.{Keeps, step-keeps}
use Rattle.mem_model.specs.declared.keys.Key.{Key}
use Rattle.mem_model.specs.declared.keys.MemoryName.{MemoryName}
use Rattle.mem_model.specs.Actions.{Actions, ActionResult, IsMemory, MayAct, IsDone}
use Rattle.mem_model.specs.Heaps.{Heap, joined}
use Rattle.mem_model.specs.Pure.{PureOutcome, done, failed as action_failed, miss}
use Rattle.mem_model.proofs.Compatible.{first_part}
use Rattle.inferred_specs.specs.Inferred.{IsFinish, Finishes, IsCutOff}
use Rattle.runs_beside.specs.Laws.{StandsBeside}
use Rattle.runs_beside.proofs.Runs.{states_are_local}
use Rattle.sym_step.proofs.Kept.{ends_of_runs}
use Rattle.sym_model.specs.Fixing.{MissesAndIsDone}

-- ---- ends

-- the run returns, throws or is cut
abbrev pub EndsWell : End → Type 0
EndsWell e = Finishes e ⊎ IsCutOff e

finish_sound : (e : Ending) → IsFinish e → ¬ IsFailed e
finish_sound (returned v) finish fails = fails
finish_sound (threw v place) finish fails = fails
finish_sound (failed v place) finish fails = finish
finish_sound vanished finish fails = finish
finish_sound (no_input k) finish fails = finish
finish_sound (bad_input k) finish fails = finish
finish_sound cut finish fails = finish

pub well_sound : (e : End) → EndsWell e → ¬ IsFailed e.ending
well_sound e well fails = ⊎_elim (λ (f : Finishes e). finish_sound e.ending f.finish fails) (λ (c : IsCutOff e). subst IsFailed c.is_cut fails) well

-- no step ends a run by a cut
pub step_over : (p : PureParts) (m : Actions) (inputs : List PureValue) (s : State) (e : End) → step p m inputs s ≡ ends e → IsOver e.ending
step_over p m inputs s e is = let keeps : Keeps 0 (ends e) = subst (Keeps 0) is (step-keeps p m inputs 0 s (omega arith)) in keeps.1

same_end : (d e : End) → ends d ≡ ends e → d ≡ e
same_end d e is = cc

-- a step that ends a run without a failure misses no key
pub none_missed : (p : PureParts) (m : Actions) (inputs : List PureValue) (s : State) (e : End) → step p m inputs s ≡ ends e → ¬ IsFailed e.ending → miss_at p m s ≡ None
none_missed p m inputs s e is sound = by (miss_at p m s) refl
  where
    by : (o : Option Key) → miss_at p m s ≡ o → o ≡ None
    by None at = refl
    by (Some key) at =
        let (choice, (d, (place, (ends_so, fails)))) = misses_fail p m inputs s key at in
        absurd (sound (subst (λ (x : End). IsFailed x.ending) (same_end d e (sym ends_so ∙ is)) (subst IsFailed (sym fails) tt)))

-- ---- an action that misses a key and is done beside the rest

pub miss_is : (o : PureOutcome) (q : Key) → missed_key o ≡ Some q → o ≡ miss q
miss_is (done v) q is = absurd (cc)
miss_is (action_failed v) q is = absurd (cc)
miss_is (miss k) q is = cc

done_is : (o : PureOutcome) (x : List ℕ) (here : Place) (s : State) → ((e : End) → after_action o x here s ≡ ends e → ¬ IsFailed e.ending) → IsDone o
done_is (done v) x here s sound = tt
done_is (action_failed v) x here s sound = sound (end_at s (failed v here)) refl tt
done_is (miss k) x here s sound = sound (end_at s (failed (text (codes "missing")) here)) refl tt

module _ (memory : MemoryName) (m : Actions) (rest : Heap) (s : State) (stands : StandsBeside memory s rest) (q : Key) where
  act_done : (b : Bool) (x a : List ℕ) (args : List PureValue) (here : Place) → MayAct m a (handed b (beside rest s)) args (joined s.heap rest) → missed_key (action_result b m a args s).outcome ≡ Some q
      → ((e : End) → do_action b m x a args here (beside rest s) ≡ ends e → ¬ IsFailed e.ending) → MissesAndIsDone memory m s.heap (joined s.heap rest) q
  act_done true x a args here may missed sound = record {
    action = a;
    fresh = Some s.counter;
    args = args;
    is_heap = stands.heap;
    larger_is_heap = stands.proper.heap;
    part = first_part s.heap rest stands.compatible.disjoint;
    may = may;
    misses = miss_is (m.act a (Some s.counter) args s.heap).outcome q missed;
    is_done = done_is (m.act a (Some s.counter) args (joined s.heap rest)).outcome x here (record (counted true (beside rest s)) { heap = (m.act a (Some s.counter) args (joined s.heap rest)).heap }) sound;
  }
  act_done false x a args here may missed sound = record {
    action = a;
    fresh = None;
    args = args;
    is_heap = stands.heap;
    larger_is_heap = stands.proper.heap;
    part = first_part s.heap rest stands.compatible.disjoint;
    may = may;
    misses = miss_is (m.act a None args s.heap).outcome q missed;
    is_done = done_is (m.act a None args (joined s.heap rest)).outcome x here (record (counted false (beside rest s)) { heap = (m.act a None args (joined s.heap rest)).heap }) sound;
  }

  module _ (p : PureParts) where
    abbrev Sound : Step → Type 0
    Sound st = (e : End) → st ≡ ends e → ¬ IsFailed e.ending

    values_done : (x a : List ℕ) (es : List PureExpr) (r : Outcomes) (here : Place) → evaluate_all es s.current.store ≡ r → list_all is_well_made_expr es ≡ true
        → option_and_then (λ (t : ActionResult). missed_key t.outcome) (of_values (λ args. Some (action_result (m.takes_symbol a) m a args s)) r) ≡ Some q
        → Sound (with_values r here (beside rest s) (λ args. do_action (m.takes_symbol a) m x a args here (beside rest s))) → MissesAndIsDone memory m s.heap (joined s.heap rest) q
    values_done x a es (Ok args) here is made missed sound =
        act_done (m.takes_symbol a) x a args here (may_act_where_reached memory m (beside rest s) a es args stands.proper made is) missed sound
    values_done x a es (Err f) here is made missed sound = absurd (cc)

    command_done : (inputs : List PureValue) (c : PureCommand) (here : Place) → list_all is_well_made_expr (exprs_of c) ≡ true → option_and_then (λ (t : ActionResult). missed_key t.outcome) (result_of p m c s) ≡ Some q
        → Sound (do_command p m inputs c here (beside rest s)) → MissesAndIsDone memory m s.heap (joined s.heap rest) q
    command_done inputs (act x a es) here made missed sound = values_done x a es (evaluate_all es s.current.store) here refl made missed sound
    command_done inputs (assign x e) here made missed sound = absurd (cc)
    command_done inputs (call x e es handler) here made missed sound = absurd (cc)
    command_done inputs (usym x) here made missed sound = absurd (cc)
    command_done inputs (isym x j) here made missed sound = absurd (cc)
    command_done inputs (ifgoto e i) here made missed sound = absurd (cc)
    command_done inputs (return e) here made missed sound = absurd (cc)
    command_done inputs (fail e) here made missed sound = absurd (cc)
    command_done inputs (throw e) here made missed sound = absurd (cc)
    command_done inputs vanish here made missed sound = absurd (cc)
    command_done inputs (fold_use u) here made missed sound = absurd (cc)
    command_done inputs (unfold_use u) here made missed sound = absurd (cc)
    command_done inputs (assert_that items) here made missed sound = absurd (cc)
    command_done inputs (loop_invariant xs ps items) here made missed sound = absurd (cc)

    at_done : (inputs : List PureValue) (c : Option PureNumberedCommand) → MadeCommand c
        → option_and_then (λ (t : ActionResult). missed_key t.outcome) (option_and_then (λ (d : PureNumberedCommand). result_of p m d.command s) c) ≡ Some q
        → Sound (step_at p m inputs c (beside rest s)) → MissesAndIsDone memory m s.heap (joined s.heap rest) q
    at_done inputs (Some c) made missed sound = command_done inputs c.command (record { proc = s.current.procedure; at = c.at }) (second_so (has_well_made_names c.command) _ made) missed sound
    at_done inputs None made missed sound = absurd (cc)

    pub state_done : (inputs : List PureValue) → is_well_made p ≡ true → miss_at p m s ≡ Some q → Sound (step p m inputs (beside rest s)) → MissesAndIsDone memory m s.heap (joined s.heap rest) q
    state_done inputs made missed sound =
        let procs : list_all is_well_made_proc p.procs ≡ true = first_so _ _ (first_so _ (list_all is_well_made_pred p.preds) made) in
        at_done inputs (command_at p s.current) (command_made (find_proc p.procs s.current.procedure) s.current.next (find_made p.procs s.current.procedure procs)) missed sound

-- ---- runs

module _ (p : PureParts) (memory : MemoryName) (m : Actions) (made : is_well_made p ≡ true) (is_memory : IsMemory memory m) (inputs : List PureValue) (rest : Heap) (s0 : State) (stands : StandsBeside memory s0 rest) where
  pub comes_beside : (j : ℕ) (s : State) → reached p m inputs j s0 ≡ Some s → (reached p m inputs j (beside rest s0) ≡ Some (beside rest s)) × StandsBeside memory s rest
  comes_beside j s at = states_are_local p memory m inputs s0 rest made is_memory stands j s at

  -- an end that is no miss is that of the run beside the rest, whatever the bound
  pub ends_beside : (n j : ℕ) (s : State) (e : End) → suc j ≤ n → reached p m inputs j s0 ≡ Some s → step p m inputs s ≡ ends e → miss_at p m s ≡ None → run p m inputs n (beside rest s0) ≡ end_beside rest e
  ends_beside n j s e few at is none =
      let (there, below) = comes_beside j s at in
      let same : step p m inputs (beside rest s) ≡ step_beside rest (step p m inputs s) = (steps_are_local p memory m inputs s rest made is_memory below.heap below.rest_heap below.compatible below.proper none).same in
      (ends_of_runs p m inputs (beside rest s0) (beside rest s) (suc j) (end_beside rest e) (inl (j, (refl, there, same ∙ ap (step_beside rest) is)))).1 n few (step_over p m inputs s e is)

  -- where the run beside the rest ends well, a key that is missed without it is no miss beside it
  pub misses_beside : (n j : ℕ) (s : State) (q : Key) → suc j ≤ n → EndsWell (run p m inputs n (beside rest s0)) → reached p m inputs j s0 ≡ Some s → miss_at p m s ≡ Some q
      → MissesAndIsDone memory m s.heap (joined s.heap rest) q
  misses_beside n j s q few well at missed =
      let (there, below) = comes_beside j s at in
      state_done memory m rest s below q p inputs made missed (sound there)
    where
      sound : reached p m inputs j (beside rest s0) ≡ Some (beside rest s) → (e : End) → step p m inputs (beside rest s) ≡ ends e → ¬ IsFailed e.ending
      sound there e is fails =
          let same : run p m inputs n (beside rest s0) ≡ e = (ends_of_runs p m inputs (beside rest s0) (beside rest s) (suc j) e (inl (j, (refl, there, is)))).1 n few (step_over p m inputs (beside rest s) e is) in
          well_sound (run p m inputs n (beside rest s0)) well (subst (λ (x : End). IsFailed x.ending) (sym same) fails)

  -- a run that is cut without the rest at the bound is cut beside it
  pub cut_beside : (n : ℕ) (s : State) → reached p m inputs n s0 ≡ Some s → (run p m inputs n (beside rest s0)).ending ≡ cut
  cut_beside n s at =
      let (there, below) = comes_beside n s at in
      ap (λ (e : End). e.ending) (ends_of_runs p m inputs (beside rest s0) (beside rest s) n (end_at (beside rest s) cut) (inr (there, refl))).0
