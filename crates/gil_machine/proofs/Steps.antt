-- What every step keeps: draws are never taken back, and no step is cut.
use Rattle.std.proofs.Common.{◌≡◌, ◌⊎◌, inl, inr, ap, ℕ, ◌+◌, ◌≤◌, ℤ, pos, negsuc, List, [], ◌∷◌, Bool, true, false, cond, Option, Some, None, Ok, Err, length, slice_get, refl, arith}
use Rattle.std.specs.Prelude.{◌==◌}
use Rattle.gil_values.specs.declared.kinds.Kind.{Kind}
use Rattle.gil_values.specs.declared.places.Place.{Place}
use Rattle.gil_values.specs.Pure.{PureValue, integer, boolean, text, symbol, kind, procedure, list, kind_of}
use Rattle.gil_values.specs.Equality.{same_kind}
use Rattle.gil_values.specs.Operators.{Outcome}
use Rattle.gil_syntax.specs.Pure.{PureCommand, assign, call, act, usym, isym, ifgoto, return, fail, throw, vanish, fold_use, unfold_use, assert_that, loop_invariant, PureNumberedCommand, PureProc, PureParts}
use Rattle.gil_syntax.specs.Programs.{find_proc}
use Rattle.gil_syntax.specs.Evaluation.{Outcomes, evaluate, evaluate_all}
use Rattle.mem_model.specs.Pure.{PureOutcome, done, failed as action_failed, miss}
use Rattle.mem_model.specs.Actions.{Actions}
use Rattle.gil_machine.specs.State.{Frame, State, Step, goes_on, ends, IsOver}
use Rattle.gil_machine.specs.Step.{command_at, to_label, with_value, with_values, handler_label, enter_found, enter_value, leave, Handling, handling, throw_to, after_action, do_action, draw, branch, do_command, step_at, step}

-- at least d draws were made, and an end is not that of the bound
abbrev pub Keeps : ℕ → Step → Type 0
Keeps d (goes_on s) = d ≤ s.draws
Keeps d (ends e) = (d ≤ e.draws) × IsOver e.ending

module _ (d : ℕ) where
  to_label-keeps : (i : ℤ) (s : State) → d ≤ s.draws → Keeps d (to_label i s)
  to_label-keeps (pos i) s h = h
  to_label-keeps (negsuc i) s h = h

  with_value-keeps : (r : Outcome) (here : Place) (s : State) (go_on : PureValue → Step) → d ≤ s.draws → ((v : PureValue) → Keeps d (go_on v)) → Keeps d (with_value r here s go_on)
  with_value-keeps (Ok v) here s go_on h k = k v
  with_value-keeps (Err f) here s go_on h k = (h, tt)

  with_values-keeps : (r : Outcomes) (here : Place) (s : State) (go_on : List PureValue → Step) → d ≤ s.draws → ((vs : List PureValue) → Keeps d (go_on vs)) → Keeps d (with_values r here s go_on)
  with_values-keeps (Ok vs) here s go_on h k = k vs
  with_values-keeps (Err f) here s go_on h k = (h, tt)

  choice-keeps : (b : Bool) (r t : Step) → Keeps d r → Keeps d t → Keeps d (cond b r t)
  choice-keeps true r t h k = h
  choice-keeps false r t h k = k

  enter_found-keeps : (q : Option PureProc) (x : List ℕ) (handler : Option ℕ) (args : List PureValue) (here : Place) (s : State) → d ≤ s.draws → Keeps d (enter_found q x handler args here s)
  enter_found-keeps None x handler args here s h = (h, tt)
  enter_found-keeps (Some q) x handler args here s h = choice-keeps (length args == length q.params) _ _ h (h, tt)

  enter_value-keeps : (p : PureParts) (v : PureValue) (x : List ℕ) (handler : Option ℕ) (args : List PureValue) (here : Place) (s : State) → d ≤ s.draws → Keeps d (enter_value p v x handler args here s)
  enter_value-keeps p (procedure f) x handler args here s h = enter_found-keeps (find_proc p.procs f) x handler args here s h
  enter_value-keeps p (integer n) x handler args here s h = (h, tt)
  enter_value-keeps p (boolean b) x handler args here s h = (h, tt)
  enter_value-keeps p (text cs) x handler args here s h = (h, tt)
  enter_value-keeps p (symbol n) x handler args here s h = (h, tt)
  enter_value-keeps p (kind k) x handler args here s h = (h, tt)
  enter_value-keeps p (list vs) x handler args here s h = (h, tt)

  leave-keeps : (callers : List Frame) (v : PureValue) (s : State) → d ≤ s.draws → Keeps d (leave callers v s)
  leave-keeps [] v s h = (h, tt)
  leave-keeps (caller ∷ callers) v s h = h

  throw_to-keeps : (o : Option Handling) (v : PureValue) (here : Place) (s : State) → d ≤ s.draws → Keeps d (throw_to o v here s)
  throw_to-keeps (Some taken) v here s h = h
  throw_to-keeps None v here s h = (h, tt)

  after_action-keeps : (o : PureOutcome) (x : List ℕ) (here : Place) (s : State) → d ≤ s.draws → Keeps d (after_action o x here s)
  after_action-keeps (done v) x here s h = h
  after_action-keeps (action_failed v) x here s h = (h, tt)
  after_action-keeps (miss k) x here s h = (h, tt)

  do_action-keeps : (b : Bool) (m : Actions) (x a : List ℕ) (args : List PureValue) (here : Place) (s : State) → d ≤ s.draws → Keeps d (do_action b m x a args here s)
  do_action-keeps true m x a args here s h = after_action-keeps _ x here _ h
  do_action-keeps false m x a args here s h = after_action-keeps _ x here _ h

  draw-keeps : (v : Option PureValue) (x : List ℕ) (k : Kind) (s : State) → d ≤ s.draws → Keeps d (draw v x k s)
  draw-keeps None x k s h = (h, tt)
  draw-keeps (Some v) x k s h = choice-keeps (same_kind (kind_of v) k) _ _ h (h, tt)

  branch-keeps : (v : PureValue) (i : ℤ) (here : Place) (s : State) → d ≤ s.draws → Keeps d (branch v i here s)
  branch-keeps (boolean true) i here s h = to_label-keeps i s h
  branch-keeps (boolean false) i here s h = h
  branch-keeps (integer n) i here s h = (h, tt)
  branch-keeps (text cs) i here s h = (h, tt)
  branch-keeps (symbol n) i here s h = (h, tt)
  branch-keeps (kind k) i here s h = (h, tt)
  branch-keeps (procedure f) i here s h = (h, tt)
  branch-keeps (list vs) i here s h = (h, tt)

module _ (p : PureParts) (m : Actions) (inputs : List PureValue) where
  do_command-keeps : (d : ℕ) (c : PureCommand) (here : Place) (s : State) → d ≤ s.draws → Keeps d (do_command p m inputs c here s)
  do_command-keeps d (assign x e) here s h = with_value-keeps d (evaluate e s.current.store) here s _ h (λ v. h)
  do_command-keeps d (call x e es handler) here s h = with_value-keeps d (evaluate e s.current.store) here s _ h (λ f. with_values-keeps d (evaluate_all es s.current.store) here s _ h (λ args. enter_value-keeps d p f x (handler_label handler) args here s h))
  do_command-keeps d (act x a es) here s h = with_values-keeps d (evaluate_all es s.current.store) here s _ h (λ args. do_action-keeps d (m.takes_symbol a) m x a args here s h)
  do_command-keeps d (usym x) here s h = h
  do_command-keeps d (isym x k) here s h = draw-keeps d (slice_get inputs s.draws) x k _ (omega arith)
  do_command-keeps d (ifgoto e i) here s h = with_value-keeps d (evaluate e s.current.store) here s _ h (λ v. branch-keeps d v i here s h)
  do_command-keeps d (return e) here s h = with_value-keeps d (evaluate e s.current.store) here s _ h (λ v. leave-keeps d s.callers v s h)
  do_command-keeps d (fail e) here s h = with_value-keeps d (evaluate e s.current.store) here s _ h (λ v. (h, tt))
  do_command-keeps d (throw e) here s h = with_value-keeps d (evaluate e s.current.store) here s _ h (λ v. throw_to-keeps d (handling s.callers) v here s h)
  do_command-keeps d vanish here s h = (h, tt)
  do_command-keeps d (fold_use u) here s h = h
  do_command-keeps d (unfold_use u) here s h = h
  do_command-keeps d (assert_that items) here s h = h
  do_command-keeps d (loop_invariant xs ps items) here s h = h

  step_at-keeps : (d : ℕ) (c : Option PureNumberedCommand) (s : State) → d ≤ s.draws → Keeps d (step_at p m inputs c s)
  step_at-keeps d (Some c) s h = do_command-keeps d c.command _ s h
  step_at-keeps d None s h = h

  pub step-keeps : (d : ℕ) (s : State) → d ≤ s.draws → Keeps d (step p m inputs s)
  step-keeps d s h = step_at-keeps d (command_at p s.current) s h

  module _ (others : List PureValue) where
    -- a step is the same with other inputs, or it is a draw, and then it is the same where the input drawn is
    abbrev pub SameUnlessDrawn : State → Step → Step → Type 0
    SameUnlessDrawn s r t = (t ≡ r) ⊎ (Keeps (s.draws + 1) r × (slice_get others s.draws ≡ slice_get inputs s.draws → t ≡ r))

    do_command-inputs : (c : PureCommand) (here : Place) (s : State) → SameUnlessDrawn s (do_command p m inputs c here s) (do_command p m others c here s)
    do_command-inputs (isym x k) here s = inr (draw-keeps (s.draws + 1) (slice_get inputs s.draws) x k _ (omega arith), λ e. ap (λ v. draw v x k (record s { draws = s.draws + 1 })) e)
    do_command-inputs (assign x e) here s = inl refl
    do_command-inputs (call x e es handler) here s = inl refl
    do_command-inputs (act x a es) here s = inl refl
    do_command-inputs (usym x) here s = inl refl
    do_command-inputs (ifgoto e i) here s = inl refl
    do_command-inputs (return e) here s = inl refl
    do_command-inputs (fail e) here s = inl refl
    do_command-inputs (throw e) here s = inl refl
    do_command-inputs vanish here s = inl refl
    do_command-inputs (fold_use u) here s = inl refl
    do_command-inputs (unfold_use u) here s = inl refl
    do_command-inputs (assert_that items) here s = inl refl
    do_command-inputs (loop_invariant xs ps items) here s = inl refl

    step_at-inputs : (c : Option PureNumberedCommand) (s : State) → SameUnlessDrawn s (step_at p m inputs c s) (step_at p m others c s)
    step_at-inputs (Some c) s = do_command-inputs c.command _ s
    step_at-inputs None s = inl refl

    pub step-inputs : (s : State) → SameUnlessDrawn s (step p m inputs s) (step p m others s)
    step-inputs s = step_at-inputs (command_at p s.current) s
