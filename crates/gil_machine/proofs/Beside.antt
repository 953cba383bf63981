-- Steps beside a rest of the heap.
use Rattle.std.proofs.Common.{◌≡◌, ℕ, ◌+◌, ℤ, pos, negsuc, List, [], ◌∷◌, Bool, true, false, cond, Option, Some, None, Ok, Err, length, slice_get, codes, refl, sym, ap, ap₂, subst}
use Rattle.std.specs.Prelude.{◌==◌}
use Rattle.std.specs.Cmp.{first_so, second_so}
use Rattle.std.specs.Option.{option_and_then, option_map}
use Rattle.std.specs.List.{list_all}
use Rattle.gil_values.specs.declared.kinds.Kind.{Kind}
use Rattle.gil_values.specs.declared.places.Place.{Place}
use Rattle.gil_values.specs.Pure.{PureValue, integer, boolean, text, symbol, kind, procedure, list, kind_of}
use Rattle.gil_values.specs.Equality.{same_kind}
use Rattle.gil_values.specs.Operators.{Outcome}
use Rattle.gil_syntax.specs.Pure.{PureCommand, PureExpr, assign, call, act, usym, isym, ifgoto, return, fail, throw, vanish, fold_use, unfold_use, assert_that, loop_invariant, PureNumberedCommand, PureProc, PureParts}
use Rattle.gil_syntax.specs.Programs.{find_proc}
use Rattle.gil_syntax.specs.Evaluation.{Outcomes, evaluate, evaluate_all}
use Rattle.gil_syntax.specs.Subexpressions.{exprs_of}
use Rattle.gil_syntax.specs.WellMade.{is_well_made_expr, has_well_made_names, is_well_made_proc, is_well_made_pred}
use Rattle.mem_model.specs.declared.keys.Key.{Key}
use Rattle.mem_model.specs.declared.keys.MemoryName.{MemoryName}
use Rattle.mem_model.specs.Heaps.{Heap, joined, IsCompatible, IsHeapOf}
use Rattle.mem_model.specs.Pure.{PureOutcome, done, failed as action_failed, miss}
use Rattle.mem_model.specs.Actions.{Actions, ActionResult, IsMemory, IsSettled, IsSameBeside, MayAct}
use Rattle.gil_machine.specs.Beside.{beside, IsSameStepBeside}
use Rattle.gil_machine.specs.Choices.{of_values, missed_key, outcome_choice, result_of, choice_of}
use Rattle.gil_machine.specs.State.{Frame, State, End, failed, bad_input, Step, goes_on, ends, end_at}
use Rattle.gil_machine.specs.Step.{action_result, counted, command_at, to_label, assigned, fails_with, with_value, with_values, handler_label, enter, enter_found, enter_value, leave, Handling, handling, throw_to, after_action, acted, do_action, draw, branch, do_command, step_at}
use Rattle.gil_machine.specs.Proper.{IsProperState}
use Rattle.gil_machine.specs.Laws.{handed, StepsAreLocal, MissesFail}
use Rattle.gil_machine.proofs.Proper.{MadeCommand, command_made, find_made, may_act_where_reached}

module _ (rest : Heap) where
  next_same : (s : State) → IsCompatible s.heap rest → IsSameStepBeside rest (goes_on s) (goes_on (beside rest s))
  next_same s h = record { same = refl; compatible = h }

  label_same : (i : ℤ) (s : State) → IsCompatible s.heap rest → IsSameStepBeside rest (to_label i s) (to_label i (beside rest s))
  label_same (pos i) s h = record { same = refl; compatible = h }
  label_same (negsuc i) s h = record { same = refl; compatible = h }

  value_same : (r : Outcome) (here : Place) (s : State) (small large : PureValue → Step) → IsCompatible s.heap rest
      → ((v : PureValue) → IsSameStepBeside rest (small v) (large v))
      → IsSameStepBeside rest (with_value r here s small) (with_value r here (beside rest s) large)
  value_same (Ok v) here s small large h k = k v
  value_same (Err f) here s small large h k = record { same = refl; compatible = h }

  values_same : (r : Outcomes) (here : Place) (s : State) (small large : List PureValue → Step) → IsCompatible s.heap rest
      → ((vs : List PureValue) → r ≡ Ok vs → IsSameStepBeside rest (small vs) (large vs))
      → IsSameStepBeside rest (with_values r here s small) (with_values r here (beside rest s) large)
  values_same (Ok vs) here s small large h k = k vs refl
  values_same (Err f) here s small large h k = record { same = refl; compatible = h }

  arity_same : (b : Bool) (q : PureProc) (x : List ℕ) (handler : Option ℕ) (args : List PureValue) (here : Place) (s : State) → IsCompatible s.heap rest
      → IsSameStepBeside rest (cond b (enter q x handler args s) (fails_with (text (codes "arity")) here s)) (cond b (enter q x handler args (beside rest s)) (fails_with (text (codes "arity")) here (beside rest s)))
  arity_same true q x handler args here s h = record { same = refl; compatible = h }
  arity_same false q x handler args here s h = record { same = refl; compatible = h }

  found_same : (q : Option PureProc) (x : List ℕ) (handler : Option ℕ) (args : List PureValue) (here : Place) (s : State) → IsCompatible s.heap rest
      → IsSameStepBeside rest (enter_found q x handler args here s) (enter_found q x handler args here (beside rest s))
  found_same None x handler args here s h = record { same = refl; compatible = h }
  found_same (Some q) x handler args here s h = arity_same (length args == length q.params) q x handler args here s h

  enter_same : (p : PureParts) (v : PureValue) (x : List ℕ) (handler : Option ℕ) (args : List PureValue) (here : Place) (s : State) → IsCompatible s.heap rest
      → IsSameStepBeside rest (enter_value p v x handler args here s) (enter_value p v x handler args here (beside rest s))
  enter_same p (procedure f) x handler args here s h = found_same (find_proc p.procs f) x handler args here s h
  enter_same p (integer n) x handler args here s h = record { same = refl; compatible = h }
  enter_same p (boolean b) x handler args here s h = record { same = refl; compatible = h }
  enter_same p (text cs) x handler args here s h = record { same = refl; compatible = h }
  enter_same p (symbol n) x handler args here s h = record { same = refl; compatible = h }
  enter_same p (kind k) x handler args here s h = record { same = refl; compatible = h }
  enter_same p (list vs) x handler args here s h = record { same = refl; compatible = h }

  leave_same : (callers : List Frame) (v : PureValue) (s : State) → IsCompatible s.heap rest
      → IsSameStepBeside rest (leave callers v s) (leave callers v (beside rest s))
  leave_same [] v s h = record { same = refl; compatible = h }
  leave_same (caller ∷ callers) v s h = record { same = refl; compatible = h }

  throw_same : (o : Option Handling) (v : PureValue) (here : Place) (s : State) → IsCompatible s.heap rest
      → IsSameStepBeside rest (throw_to o v here s) (throw_to o v here (beside rest s))
  throw_same (Some taken) v here s h = record { same = refl; compatible = h }
  throw_same None v here s h = record { same = refl; compatible = h }

  kind_same : (b : Bool) (v : PureValue) (x : List ℕ) (s : State) → IsCompatible s.heap rest
      → IsSameStepBeside rest (cond b (assigned x v s) (ends (end_at s (bad_input s.draws)))) (cond b (assigned x v (beside rest s)) (ends (end_at (beside rest s) (bad_input s.draws))))
  kind_same true v x s h = record { same = refl; compatible = h }
  kind_same false v x s h = record { same = refl; compatible = h }

  draw_same : (v : Option PureValue) (x : List ℕ) (k : Kind) (s : State) → IsCompatible s.heap rest
      → IsSameStepBeside rest (draw v x k s) (draw v x k (beside rest s))
  draw_same None x k s h = record { same = refl; compatible = h }
  draw_same (Some v) x k s h = kind_same (same_kind (kind_of v) k) v x s h

  branch_same : (v : PureValue) (i : ℤ) (here : Place) (s : State) → IsCompatible s.heap rest
      → IsSameStepBeside rest (branch v i here s) (branch v i here (beside rest s))
  branch_same (boolean true) i here s h = label_same i s h
  branch_same (boolean false) i here s h = record { same = refl; compatible = h }
  branch_same (integer n) i here s h = record { same = refl; compatible = h }
  branch_same (text cs) i here s h = record { same = refl; compatible = h }
  branch_same (symbol n) i here s h = record { same = refl; compatible = h }
  branch_same (kind k) i here s h = record { same = refl; compatible = h }
  branch_same (procedure f) i here s h = record { same = refl; compatible = h }
  branch_same (list vs) i here s h = record { same = refl; compatible = h }

  -- ---- actions

  -- what an action leads to, where its result beside the rest is that with the rest
  outcome_same : (o : PureOutcome) (h : Heap) (x : List ℕ) (here : Place) (s : State) → IsCompatible h rest
      → IsSameStepBeside rest (after_action o x here (record s { heap = h })) (after_action o x here (record s { heap = joined h rest }))
  outcome_same (done v) h x here s k = record { same = refl; compatible = k }
  outcome_same (action_failed v) h x here s k = record { same = refl; compatible = k }
  outcome_same (miss key) h x here s k = record { same = refl; compatible = k }

  acted_same : (small large : ActionResult) (x : List ℕ) (here : Place) (s : State) → IsSameBeside rest small large
      → IsSameStepBeside rest (acted small x here s) (acted large x here (beside rest s))
  acted_same small large x here s same =
      subst (λ r. IsSameStepBeside rest (acted small x here s) (acted r x here (beside rest s)))
      (sym (ap₂ (λ o h. let r : ActionResult = record { outcome = o; heap = h } in r) same.outcome same.heap))
      (outcome_same small.outcome small.heap x here s same.compatible)

  settled : (o : PureOutcome) → missed_key o ≡ None → IsSettled o
  settled (done v) h = tt
  settled (action_failed v) h = tt
  settled (miss k) h = absurd (cc)

  module _ (memory : MemoryName) (m : Actions) (laws : IsMemory memory m) where
    action_same : (b : Bool) (x a : List ℕ) (args : List PureValue) (here : Place) (s : State)
        → IsHeapOf memory s.heap → IsHeapOf memory rest → IsCompatible s.heap rest
        → MayAct m a (handed b (beside rest s)) args (joined s.heap rest)
        → missed_key (action_result b m a args s).outcome ≡ None
        → IsSameStepBeside rest (do_action b m x a args here s) (do_action b m x a args here (beside rest s))
    action_same true x a args here s of_memory rest_of_memory compatible may no_miss =
        acted_same _ _ x here (counted true s) (laws.locality a (Some s.counter) args s.heap rest of_memory rest_of_memory compatible may (settled _ no_miss))
    action_same false x a args here s of_memory rest_of_memory compatible may no_miss =
        acted_same _ _ x here s (laws.locality a None args s.heap rest of_memory rest_of_memory compatible may (settled _ no_miss))

    module _ (p : PureParts) (inputs : List PureValue) where
      command_same : (c : PureCommand) (here : Place) (s : State) → list_all is_well_made_expr (exprs_of c) ≡ true
          → IsHeapOf memory s.heap → IsHeapOf memory rest → IsCompatible s.heap rest → IsProperState memory (beside rest s)
          → option_and_then (λ r. missed_key r.outcome) (result_of p m c s) ≡ None
          → IsSameStepBeside rest (do_command p m inputs c here s) (do_command p m inputs c here (beside rest s))
      command_same (assign x e) here s made in_memory rest_in_memory h proper no_miss =
          value_same (evaluate e s.current.store) here s _ _ h (λ v. record { same = refl; compatible = h })
      command_same (call x e es handler) here s made in_memory rest_in_memory h proper no_miss =
          value_same (evaluate e s.current.store) here s _ _ h (λ f. values_same (evaluate_all es s.current.store) here s _ _ h (λ args is. enter_same p f x (handler_label handler) args here s h))
      command_same (act x a es) here s made in_memory rest_in_memory h proper no_miss =
          values_same (evaluate_all es s.current.store) here s _ _ h (λ args is.
          action_same (m.takes_symbol a) x a args here s in_memory rest_in_memory h
          (may_act_where_reached memory m (beside rest s) a es args proper made is)
          (let at_args : option_and_then (λ r. missed_key r.outcome) (of_values (λ vs. Some (action_result (m.takes_symbol a) m a vs s)) (Ok args)) ≡ None
          = subst (λ o. option_and_then (λ r. missed_key r.outcome) (of_values (λ vs. Some (action_result (m.takes_symbol a) m a vs s)) o) ≡ None) is no_miss in at_args))
      command_same (usym x) here s made in_memory rest_in_memory h proper no_miss = record { same = refl; compatible = h }
      command_same (isym x k) here s made in_memory rest_in_memory h proper no_miss = draw_same (slice_get inputs s.draws) x k (record s { draws = s.draws + 1 }) h
      command_same (ifgoto e i) here s made in_memory rest_in_memory h proper no_miss =
          value_same (evaluate e s.current.store) here s _ _ h (λ v. branch_same v i here s h)
      command_same (return e) here s made in_memory rest_in_memory h proper no_miss =
          value_same (evaluate e s.current.store) here s _ _ h (λ v. leave_same s.callers v s h)
      command_same (fail e) here s made in_memory rest_in_memory h proper no_miss =
          value_same (evaluate e s.current.store) here s _ _ h (λ v. record { same = refl; compatible = h })
      command_same (throw e) here s made in_memory rest_in_memory h proper no_miss =
          value_same (evaluate e s.current.store) here s _ _ h (λ v. throw_same (handling s.callers) v here s h)
      command_same vanish here s made in_memory rest_in_memory h proper no_miss = record { same = refl; compatible = h }
      command_same (fold_use u) here s made in_memory rest_in_memory h proper no_miss = record { same = refl; compatible = h }
      command_same (unfold_use u) here s made in_memory rest_in_memory h proper no_miss = record { same = refl; compatible = h }
      command_same (assert_that items) here s made in_memory rest_in_memory h proper no_miss = record { same = refl; compatible = h }
      command_same (loop_invariant xs ps items) here s made in_memory rest_in_memory h proper no_miss = record { same = refl; compatible = h }

      at_same : (c : Option PureNumberedCommand) (s : State) → MadeCommand c
          → IsHeapOf memory s.heap → IsHeapOf memory rest → IsCompatible s.heap rest → IsProperState memory (beside rest s)
          → option_and_then (λ r. missed_key r.outcome) (option_and_then (λ d. result_of p m d.command s) c) ≡ None
          → IsSameStepBeside rest (step_at p m inputs c s) (step_at p m inputs c (beside rest s))
      at_same (Some c) s made in_memory rest_in_memory h proper no_miss =
          command_same c.command _ s (second_so (has_well_made_names c.command) _ made) in_memory rest_in_memory h proper no_miss
      at_same None s made in_memory rest_in_memory h proper no_miss = record { same = refl; compatible = h }

pub steps_are_local : StepsAreLocal
steps_are_local p memory m inputs s rest made laws in_memory rest_in_memory h proper no_miss =
    let procs : list_all is_well_made_proc p.procs ≡ true = first_so _ _ (first_so _ (list_all is_well_made_pred p.preds) made) in
    at_same rest memory m laws p inputs (command_at p s.current) s
    (command_made (find_proc p.procs s.current.procedure) s.current.next (find_made p.procs s.current.procedure procs))
    in_memory rest_in_memory h proper no_miss

-- ---- misses

missing_by : (o : PureOutcome) (k : Key) (x : List ℕ) (here : Place) (s : State) → missed_key o ≡ Some k
    → (outcome_choice o ≡ 2) × ((e : End) × ((place : Place) × ((after_action o x here s ≡ ends e) × (e.ending ≡ failed (text (codes "missing")) place))))
missing_by (done v) k x here s is = absurd (cc)
missing_by (action_failed v) k x here s is = absurd (cc)
missing_by (miss key) k x here s is = (refl, (end_at s (failed (text (codes "missing")) here), (here, (refl, refl))))

module _ (p : PureParts) (m : Actions) (inputs : List PureValue) where
  -- what a miss leads to, at a command
  abbrev Missing : PureCommand → Place → State → Type 0
  Missing c here s = (choice_of p m c s ≡ Some 2) × ((e : End) × ((place : Place) × ((do_command p m inputs c here s ≡ ends e) × (e.ending ≡ failed (text (codes "missing")) place))))

  act_missing : (x a : List ℕ) (es : List PureExpr) (r : Outcomes) (k : Key) (here : Place) (s : State)
      → option_and_then (λ t. missed_key t.outcome) (of_values (λ args. Some (action_result (m.takes_symbol a) m a args s)) r) ≡ Some k
      → (option_map (λ t. outcome_choice t.outcome) (of_values (λ args. Some (action_result (m.takes_symbol a) m a args s)) r) ≡ Some 2)
      × ((e : End) × ((place : Place) × ((with_values r here s (λ args. do_action (m.takes_symbol a) m x a args here s) ≡ ends e) × (e.ending ≡ failed (text (codes "missing")) place))))
  act_missing x a es (Ok args) k here s is =
      let there = missing_by (action_result (m.takes_symbol a) m a args s).outcome k x here (record (counted (m.takes_symbol a) s) { heap = (action_result (m.takes_symbol a) m a args s).heap }) is in
      (ap Some there.0, there.1)
  act_missing x a es (Err f) k here s is = absurd (cc)

  command_missing : (c : PureCommand) (k : Key) (here : Place) (s : State) → option_and_then (λ t. missed_key t.outcome) (result_of p m c s) ≡ Some k → Missing c here s
  command_missing (act x a es) k here s is = act_missing x a es (evaluate_all es s.current.store) k here s is
  command_missing (assign x e) k here s is = absurd (cc)
  command_missing (call x e es handler) k here s is = absurd (cc)
  command_missing (usym x) k here s is = absurd (cc)
  command_missing (isym x j) k here s is = absurd (cc)
  command_missing (ifgoto e i) k here s is = absurd (cc)
  command_missing (return e) k here s is = absurd (cc)
  command_missing (fail e) k here s is = absurd (cc)
  command_missing (throw e) k here s is = absurd (cc)
  command_missing vanish k here s is = absurd (cc)
  command_missing (fold_use u) k here s is = absurd (cc)
  command_missing (unfold_use u) k here s is = absurd (cc)
  command_missing (assert_that items) k here s is = absurd (cc)
  command_missing (loop_invariant xs ps items) k here s is = absurd (cc)

  at_missing : (c : Option PureNumberedCommand) (k : Key) (s : State)
      → option_and_then (λ t. missed_key t.outcome) (option_and_then (λ d. result_of p m d.command s) c) ≡ Some k
      → (option_and_then (λ d. choice_of p m d.command s) c ≡ Some 2)
      × ((e : End) × ((place : Place) × ((step_at p m inputs c s ≡ ends e) × (e.ending ≡ failed (text (codes "missing")) place))))
  at_missing (Some c) k s is = command_missing c.command k _ s is
  at_missing None k s is = absurd (cc)

pub misses_fail : MissesFail
misses_fail p m inputs s k is = at_missing p m inputs (command_at p s.current) k s is
