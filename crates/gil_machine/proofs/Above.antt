-- A state with further frames below makes the same steps.
use Rattle.std.proofs.Common.{◌≡◌, ℕ, zero, suc, ◌+◌, ℤ, pos, negsuc, List, [], ◌∷◌, ◌++◌, Bool, true, false, cond, Option, Some, None, Ok, Err, length, slice_get, refl, ap, ◌∙◌, arith}
use Rattle.std.specs.Prelude.{◌==◌, codes}
use Rattle.gil_values.specs.declared.kinds.Kind.{Kind}
use Rattle.gil_values.specs.declared.places.Place.{Place}
use Rattle.gil_values.specs.Pure.{PureValue, integer, boolean, text, symbol, kind, procedure, list, kind_of}
use Rattle.gil_values.specs.Equality.{same_kind}
use Rattle.gil_values.specs.Operators.{Outcome}
use Rattle.gil_syntax.specs.Pure.{PureCommand, assign, call, act, usym, isym, ifgoto, return, fail, throw, vanish, fold_use, unfold_use, assert_that, loop_invariant, PureNumberedCommand, PureProc, PureParts}
use Rattle.gil_syntax.specs.Programs.{find_proc}
use Rattle.gil_syntax.specs.Evaluation.{Outcomes, evaluate, evaluate_all}
use Rattle.mem_model.specs.Pure.{PureOutcome, done, failed as action_failed, miss}
use Rattle.mem_model.specs.Actions.{Actions}
use Rattle.gil_machine.specs.State.{Frame, State, End, Step, goes_on, ends, end_at, returned, threw, bad_input}
use Rattle.gil_machine.specs.Step.{command_at, to_label, assigned, fails_with, with_value, with_values, handler_label, enter, enter_found, enter_value, leave, Handling, handled_or, handling, throw_to, after_action, do_action, draw, branch, do_command, step_at, step}
use Rattle.gil_machine.specs.Run.{after, run, and_then, reached}
use Rattle.gil_machine.specs.Above.{above, at_end, step_above}
use Rattle.gil_machine.specs.Laws.{StepsAboveFrames, ReachesAboveFrames, EndsAboveFrames}

module _ (frames : List Frame) (first : State) where
  -- a step does the same there
  abbrev Same : Step → Step → Type 0
  Same large small = large ≡ step_above frames first small

  fails-above : (v : PureValue) (here : Place) (s : State) → Same (fails_with v here (above frames s)) (fails_with v here s)
  fails-above v here s = refl

  label-above : (i : ℤ) (s : State) → Same (to_label i (above frames s)) (to_label i s)
  label-above (pos i) s = refl
  label-above (negsuc i) s = refl

  value-above : (r : Outcome) (here : Place) (s : State) (large small : PureValue → Step) → ((v : PureValue) → Same (large v) (small v))
      → Same (with_value r here (above frames s) large) (with_value r here s small)
  value-above (Ok v) here s large small same = same v
  value-above (Err f) here s large small same = refl

  values-above : (r : Outcomes) (here : Place) (s : State) (large small : List PureValue → Step) → ((vs : List PureValue) → Same (large vs) (small vs))
      → Same (with_values r here (above frames s) large) (with_values r here s small)
  values-above (Ok vs) here s large small same = same vs
  values-above (Err f) here s large small same = refl

  arity-above : (b : Bool) (q : PureProc) (x : List ℕ) (handler : Option ℕ) (args : List PureValue) (here : Place) (s : State)
      → Same (cond b (enter q x handler args (above frames s)) (fails_with (text (codes "arity")) here (above frames s))) (cond b (enter q x handler args s) (fails_with (text (codes "arity")) here s))
  arity-above true q x handler args here s = refl
  arity-above false q x handler args here s = refl

  found-above : (q : Option PureProc) (x : List ℕ) (handler : Option ℕ) (args : List PureValue) (here : Place) (s : State)
      → Same (enter_found q x handler args here (above frames s)) (enter_found q x handler args here s)
  found-above None x handler args here s = refl
  found-above (Some q) x handler args here s = arity-above (length args == length q.params) q x handler args here s

  enter-above : (p : PureParts) (v : PureValue) (x : List ℕ) (handler : Option ℕ) (args : List PureValue) (here : Place) (s : State)
      → Same (enter_value p v x handler args here (above frames s)) (enter_value p v x handler args here s)
  enter-above p (procedure f) x handler args here s = found-above (find_proc p.procs f) x handler args here s
  enter-above p (integer n) x handler args here s = refl
  enter-above p (boolean b) x handler args here s = refl
  enter-above p (text cs) x handler args here s = refl
  enter-above p (symbol n) x handler args here s = refl
  enter-above p (kind k) x handler args here s = refl
  enter-above p (list vs) x handler args here s = refl

  leave_below : (below : List Frame) (v : PureValue) (s : State) → leave below v (above frames s) ≡ leave below v (at_end (end_at s (returned v)) first)
  leave_below [] v s = refl
  leave_below (caller ∷ callers) v s = refl

  leave-above : (callers : List Frame) (v : PureValue) (s : State) → Same (leave (callers ++ frames) v (above frames s)) (leave callers v s)
  leave-above [] v s = leave_below frames v s
  leave-above (caller ∷ callers) v s = refl

  -- what a throw finds there
  abbrev handled_above : Option Handling → Option Handling
  handled_above (Some h) = Some (record h { callers = h.callers ++ frames })
  handled_above None = handling frames

  handled_or-above : (o : Option ℕ) (frame : Frame) (callers : List Frame) (below : Option Handling)
      → handled_or o frame (callers ++ frames) (handled_above below) ≡ handled_above (handled_or o frame callers below)
  handled_or-above (Some i) frame callers below = refl
  handled_or-above None frame callers below = refl

  handling-above : (callers : List Frame) → handling (callers ++ frames) ≡ handled_above (handling callers)
  handling-above [] = refl
  handling-above (caller ∷ callers) =
      ap (handled_or caller.handler caller (callers ++ frames)) (handling-above callers) ∙ handled_or-above caller.handler caller callers (handling callers)

  throw_below : (o : Option Handling) (v : PureValue) (here : Place) (s : State) → throw_to o v here (above frames s) ≡ throw_to o v here (at_end (end_at s (threw v here)) first)
  throw_below (Some h) v here s = refl
  throw_below None v here s = refl

  found_throw-above : (o : Option Handling) (v : PureValue) (here : Place) (s : State) → Same (throw_to (handled_above o) v here (above frames s)) (throw_to o v here s)
  found_throw-above (Some h) v here s = refl
  found_throw-above None v here s = throw_below (handling frames) v here s

  throw-above : (v : PureValue) (here : Place) (s : State) → Same (throw_to (handling (s.callers ++ frames)) v here (above frames s)) (throw_to (handling s.callers) v here s)
  throw-above v here s = ap (λ o. throw_to o v here (above frames s)) (handling-above s.callers) ∙ found_throw-above (handling s.callers) v here s

  after_action-above : (o : PureOutcome) (x : List ℕ) (here : Place) (s : State) → Same (after_action o x here (above frames s)) (after_action o x here s)
  after_action-above (done v) x here s = refl
  after_action-above (action_failed v) x here s = refl
  after_action-above (miss k) x here s = refl

  action-above : (b : Bool) (m : Actions) (x a : List ℕ) (args : List PureValue) (here : Place) (s : State) → Same (do_action b m x a args here (above frames s)) (do_action b m x a args here s)
  action-above true m x a args here s = after_action-above _ x here (record s { heap = (m.act a (Some s.counter) args s.heap).heap; counter = s.counter + 1 })
  action-above false m x a args here s = after_action-above _ x here (record s { heap = (m.act a None args s.heap).heap })

  drawn-above : (b : Bool) (v : PureValue) (x : List ℕ) (s : State)
      → Same (cond b (assigned x v (above frames s)) (ends (end_at (above frames s) (bad_input s.draws)))) (cond b (assigned x v s) (ends (end_at s (bad_input s.draws))))
  drawn-above true v x s = refl
  drawn-above false v x s = refl

  draw-above : (v : Option PureValue) (x : List ℕ) (k : Kind) (s : State) → Same (draw v x k (above frames s)) (draw v x k s)
  draw-above None x k s = refl
  draw-above (Some v) x k s = drawn-above (same_kind (kind_of v) k) v x s

  branch-above : (v : PureValue) (i : ℤ) (here : Place) (s : State) → Same (branch v i here (above frames s)) (branch v i here s)
  branch-above (boolean true) i here s = label-above i s
  branch-above (boolean false) i here s = refl
  branch-above (integer n) i here s = refl
  branch-above (text cs) i here s = refl
  branch-above (symbol n) i here s = refl
  branch-above (kind k) i here s = refl
  branch-above (procedure f) i here s = refl
  branch-above (list vs) i here s = refl

  module _ (p : PureParts) (m : Actions) (inputs : List PureValue) where
    command-above : (c : PureCommand) (here : Place) (s : State) → Same (do_command p m inputs c here (above frames s)) (do_command p m inputs c here s)
    command-above (assign x e) here s = value-above (evaluate e s.current.store) here s _ _ (λ v. refl)
    command-above (call x e es handler) here s =
        value-above (evaluate e s.current.store) here s _ _ (λ f.
        values-above (evaluate_all es s.current.store) here s _ _ (λ args. enter-above p f x (handler_label handler) args here s))
    command-above (act x a es) here s = values-above (evaluate_all es s.current.store) here s _ _ (λ args. action-above (m.takes_symbol a) m x a args here s)
    command-above (usym x) here s = refl
    command-above (isym x k) here s = draw-above (slice_get inputs s.draws) x k (record s { draws = s.draws + 1 })
    command-above (ifgoto e i) here s = value-above (evaluate e s.current.store) here s _ _ (λ v. branch-above v i here s)
    command-above (return e) here s = value-above (evaluate e s.current.store) here s _ _ (λ v. leave-above s.callers v s)
    command-above (fail e) here s = value-above (evaluate e s.current.store) here s _ _ (λ v. refl)
    command-above (throw e) here s = value-above (evaluate e s.current.store) here s _ _ (λ v. throw-above v here s)
    command-above vanish here s = refl
    command-above (fold_use u) here s = refl
    command-above (unfold_use u) here s = refl
    command-above (assert_that items) here s = refl
    command-above (loop_invariant xs ps items) here s = refl

    at-above : (c : Option PureNumberedCommand) (s : State) → Same (step_at p m inputs c (above frames s)) (step_at p m inputs c s)
    at-above (Some c) s = command-above c.command _ s
    at-above None s = refl

pub steps_above_frames : StepsAboveFrames
steps_above_frames p m inputs s frames = at-above frames s p m inputs (command_at p s.current) s

-- ---- runs

reached_by : (frames : List Frame) (first t : State) (r : Step) (go_on : State → Option State) → ((u : State) → go_on u ≡ Some t → go_on (above frames u) ≡ Some (above frames t))
    → and_then r go_on ≡ Some t → and_then (step_above frames first r) go_on ≡ Some (above frames t)
reached_by frames first t (goes_on u) go_on more is = more u is
reached_by frames first t (ends e) go_on more is = absurd (cc)

pub reaches_above_frames : ReachesAboveFrames
reaches_above_frames p m inputs zero s t frames is = ap (λ (o : Option State). above_if frames o) is
  where
    above_if : List Frame → Option State → Option State
    above_if fs (Some u) = Some (above fs u)
    above_if fs None = None
reaches_above_frames p m inputs (suc k) s t frames is =
    ap (λ r. and_then r (reached p m inputs k)) (steps_above_frames p m inputs s frames)
    ∙ reached_by frames s t (step p m inputs s) (reached p m inputs k) (λ u. reaches_above_frames p m inputs k u t frames) is

run_by : (t : State) (r : Step) (e : End) (go_on : State → Option State) (runs : State → End) → ((u : State) → go_on u ≡ Some t → runs u ≡ e) → and_then r go_on ≡ Some t → after r runs ≡ e
run_by t (goes_on u) e go_on runs more is = more u is
run_by t (ends d) e go_on runs more is = absurd (cc)

-- the run from a state that was reached
run_from : (p : PureParts) (m : Actions) (inputs : List PureValue) (k n : ℕ) (s t : State) → reached p m inputs k s ≡ Some t → run p m inputs (k + n) s ≡ run p m inputs n t
run_from p m inputs zero n s t is =
    let same : s ≡ t = cc in
    let none : zero + n ≡ n = omega arith in
    λ i. run p m inputs (none i) (same i)
run_from p m inputs (suc k) n s t is =
    let one_more : suc k + n ≡ suc (k + n) = omega arith in
    ap (λ j. run p m inputs j s) one_more
    ∙ run_by t (step p m inputs s) (run p m inputs n t) (reached p m inputs k) (run p m inputs (k + n)) (λ u. run_from p m inputs k n u t) is

pub ends_above_frames : EndsAboveFrames
ends_above_frames p m inputs k n s t e frames is over =
    run_from p m inputs k (suc n) (above frames s) (above frames t) (reaches_above_frames p m inputs k s t frames is)
    ∙ ap (λ r. after r (run p m inputs n)) (steps_above_frames p m inputs t frames ∙ ap (step_above frames t) over)
