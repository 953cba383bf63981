-- A state after more draws makes the same step, where the next input is the same.
use Rattle.std.proofs.Common.{◌≡◌, ℕ, zero, suc, ◌+◌, ℤ, pos, negsuc, List, [], ◌∷◌, Bool, true, false, cond, Option, Some, None, Ok, Err, length, slice_get, refl, ap, ◌∙◌, arith}
use Rattle.std.specs.Prelude.{◌==◌, codes}
use Rattle.gil_values.specs.declared.kinds.Kind.{Kind}
use Rattle.gil_values.specs.declared.places.Place.{Place}
use Rattle.gil_values.specs.Pure.{PureValue, integer, boolean, text, symbol, kind, procedure, list, kind_of}
use Rattle.gil_values.specs.Equality.{same_kind}
use Rattle.gil_values.specs.Operators.{Outcome}
use Rattle.gil_syntax.specs.Pure.{PureCommand, assign, call, act, usym, isym, ifgoto, return, fail, throw, vanish, fold_use, unfold_use, assert_that, loop_invariant, PureNumberedCommand, PureProc, PureParts}
use Rattle.gil_syntax.specs.Programs.{find_proc}
use Rattle.gil_syntax.specs.Evaluation.{Outcomes, evaluate, evaluate_all}
use Rattle.mem_model.specs.Pure.{PureOutcome, done, failed as action_failed, miss}
use Rattle.mem_model.specs.Actions.{Actions}
use Rattle.gil_machine.specs.State.{Frame, State, End, Step, goes_on, ends, end_at, bad_input}
use Rattle.gil_machine.specs.Step.{command_at, to_label, assigned, fails_with, with_value, with_values, handler_label, enter, enter_found, enter_value, leave, Handling, handling, throw_to, after_action, do_action, draw, branch, do_command, step_at, step}
use Rattle.gil_machine.specs.Run.{after, run}
use Rattle.gil_machine.specs.Later.{later, later_end, later_step}
use Rattle.gil_machine.specs.Laws.{StepsAreSameLater, RunsAreSameLater}

module _ (d : ℕ) where
  -- a step does the same there
  abbrev Same : Step → Step → Type 0
  Same other one = other ≡ later_step d one

  label-later : (i : ℤ) (s : State) → Same (to_label i (later d s)) (to_label i s)
  label-later (pos i) s = refl
  label-later (negsuc i) s = refl

  value-later : (r : Outcome) (here : Place) (s : State) (other one : PureValue → Step) → ((v : PureValue) → Same (other v) (one v))
      → Same (with_value r here (later d s) other) (with_value r here s one)
  value-later (Ok v) here s other one same = same v
  value-later (Err f) here s other one same = refl

  values-later : (r : Outcomes) (here : Place) (s : State) (other one : List PureValue → Step) → ((vs : List PureValue) → Same (other vs) (one vs))
      → Same (with_values r here (later d s) other) (with_values r here s one)
  values-later (Ok vs) here s other one same = same vs
  values-later (Err f) here s other one same = refl

  arity-later : (b : Bool) (q : PureProc) (x : List ℕ) (handler : Option ℕ) (args : List PureValue) (here : Place) (s : State)
      → Same (cond b (enter q x handler args (later d s)) (fails_with (text (codes "arity")) here (later d s))) (cond b (enter q x handler args s) (fails_with (text (codes "arity")) here s))
  arity-later true q x handler args here s = refl
  arity-later false q x handler args here s = refl

  found-later : (q : Option PureProc) (x : List ℕ) (handler : Option ℕ) (args : List PureValue) (here : Place) (s : State)
      → Same (enter_found q x handler args here (later d s)) (enter_found q x handler args here s)
  found-later None x handler args here s = refl
  found-later (Some q) x handler args here s = arity-later (length args == length q.params) q x handler args here s

  enter-later : (p : PureParts) (v : PureValue) (x : List ℕ) (handler : Option ℕ) (args : List PureValue) (here : Place) (s : State)
      → Same (enter_value p v x handler args here (later d s)) (enter_value p v x handler args here s)
  enter-later p (procedure f) x handler args here s = found-later (find_proc p.procs f) x handler args here s
  enter-later p (integer n) x handler args here s = refl
  enter-later p (boolean b) x handler args here s = refl
  enter-later p (text cs) x handler args here s = refl
  enter-later p (symbol n) x handler args here s = refl
  enter-later p (kind k) x handler args here s = refl
  enter-later p (list vs) x handler args here s = refl

  leave-later : (callers : List Frame) (v : PureValue) (s : State) → Same (leave callers v (later d s)) (leave callers v s)
  leave-later [] v s = refl
  leave-later (caller ∷ callers) v s = refl

  throw-later : (o : Option Handling) (v : PureValue) (here : Place) (s : State) → Same (throw_to o v here (later d s)) (throw_to o v here s)
  throw-later (Some h) v here s = refl
  throw-later None v here s = refl

  after_action-later : (o : PureOutcome) (x : List ℕ) (here : Place) (s : State) → Same (after_action o x here (later d s)) (after_action o x here s)
  after_action-later (done v) x here s = refl
  after_action-later (action_failed v) x here s = refl
  after_action-later (miss k) x here s = refl

  action-later : (b : Bool) (m : Actions) (x a : List ℕ) (args : List PureValue) (here : Place) (s : State) → Same (do_action b m x a args here (later d s)) (do_action b m x a args here s)
  action-later true m x a args here s = after_action-later _ x here (record s { heap = (m.act a (Some s.counter) args s.heap).heap; counter = s.counter + 1 })
  action-later false m x a args here s = after_action-later _ x here (record s { heap = (m.act a None args s.heap).heap })

  drawn-later : (b : Bool) (v : PureValue) (x : List ℕ) (s : State)
      → Same (cond b (assigned x v (later d s)) (ends (end_at (later d s) (bad_input (d + s.draws))))) (cond b (assigned x v s) (ends (end_at s (bad_input s.draws))))
  drawn-later true v x s = refl
  drawn-later false v x s = refl

  draw-later : (v : Option PureValue) (x : List ℕ) (k : Kind) (s : State) → Same (draw v x k (later d s)) (draw v x k s)
  draw-later None x k s = refl
  draw-later (Some v) x k s = drawn-later (same_kind (kind_of v) k) v x s

  next_draw-later : (v w : Option PureValue) (x : List ℕ) (k : Kind) (s : State) → v ≡ w
      → Same (draw v x k (record s { draws = d + s.draws + 1 })) (draw w x k (record s { draws = s.draws + 1 }))
  next_draw-later v w x k s is =
      let counted : d + s.draws + 1 ≡ d + (s.draws + 1) = omega arith in
      (λ i. draw (is i) x k (record s { draws = counted i })) ∙ draw-later w x k (record s { draws = s.draws + 1 })

  branch-later : (v : PureValue) (i : ℤ) (here : Place) (s : State) → Same (branch v i here (later d s)) (branch v i here s)
  branch-later (boolean true) i here s = label-later i s
  branch-later (boolean false) i here s = refl
  branch-later (integer n) i here s = refl
  branch-later (text cs) i here s = refl
  branch-later (symbol n) i here s = refl
  branch-later (kind k) i here s = refl
  branch-later (procedure f) i here s = refl
  branch-later (list vs) i here s = refl

  module _ (p : PureParts) (m : Actions) (inputs others : List PureValue) where
    command-later : (c : PureCommand) (here : Place) (s : State) → slice_get others (d + s.draws) ≡ slice_get inputs s.draws
        → Same (do_command p m others c here (later d s)) (do_command p m inputs c here s)
    command-later (assign x e) here s next = value-later (evaluate e s.current.store) here s _ _ (λ v. refl)
    command-later (call x e es handler) here s next =
        value-later (evaluate e s.current.store) here s _ _ (λ f.
        values-later (evaluate_all es s.current.store) here s _ _ (λ args. enter-later p f x (handler_label handler) args here s))
    command-later (act x a es) here s next = values-later (evaluate_all es s.current.store) here s _ _ (λ args. action-later (m.takes_symbol a) m x a args here s)
    command-later (usym x) here s next = refl
    command-later (isym x k) here s next = next_draw-later _ _ x k s next
    command-later (ifgoto e i) here s next = value-later (evaluate e s.current.store) here s _ _ (λ v. branch-later v i here s)
    command-later (return e) here s next = value-later (evaluate e s.current.store) here s _ _ (λ v. leave-later s.callers v s)
    command-later (fail e) here s next = value-later (evaluate e s.current.store) here s _ _ (λ v. refl)
    command-later (throw e) here s next = value-later (evaluate e s.current.store) here s _ _ (λ v. throw-later (handling s.callers) v here s)
    command-later vanish here s next = refl
    command-later (fold_use u) here s next = refl
    command-later (unfold_use u) here s next = refl
    command-later (assert_that items) here s next = refl
    command-later (loop_invariant xs ps items) here s next = refl

    at-later : (c : Option PureNumberedCommand) (s : State) → slice_get others (d + s.draws) ≡ slice_get inputs s.draws → Same (step_at p m others c (later d s)) (step_at p m inputs c s)
    at-later (Some c) s next = command-later c.command _ s next
    at-later None s next = refl

pub steps_are_same_later : StepsAreSameLater
steps_are_same_later p m inputs others d s next = at-later d p m inputs others (command_at p s.current) s next

-- ---- runs

ran_by : (d : ℕ) (r : Step) (runs others : State → End) → ((t : State) → others (later d t) ≡ later_end d (runs t)) → after (later_step d r) others ≡ later_end d (after r runs)
ran_by d (goes_on t) runs others same = same t
ran_by d (ends e) runs others same = refl

pub runs_are_same_later : RunsAreSameLater
runs_are_same_later p m inputs others d zero s same = refl
runs_are_same_later p m inputs others d (suc n) s same =
    ap (λ r. after r (run p m others n)) (steps_are_same_later p m inputs others d s (same s.draws))
    ∙ ran_by d (step p m inputs s) (run p m inputs n) (run p m others n) (λ t. runs_are_same_later p m inputs others d n t same)
