-- What the steps of the machine do to frames and to the counter, and how they end, whatever the inputs and the draws before.
use Rattle.std.proofs.Common.{◌≡◌, ◌⊎◌, inl, inr, ℕ, ◌+◌, ◌≤◌, ℤ, pos, negsuc, List, [], ◌∷◌, ◌++◌, Bool, true, false, cond, Option, Some, None, Ok, Err, length, refl, ap, ◌∙◌, arith}
use Rattle.std.specs.Prelude.{◌==◌, codes}
use Rattle.gil_values.specs.declared.places.Place.{Place}
use Rattle.gil_values.specs.Pure.{PureValue, integer, boolean, text, symbol, kind, procedure, list}
use Rattle.gil_values.specs.Operators.{Outcome}
use Rattle.gil_syntax.specs.Pure.{PureCommand, assign, call, act, usym, isym, ifgoto, return, fail, throw, vanish, fold_use, unfold_use, assert_that, loop_invariant, PureProc, PureParts}
use Rattle.gil_syntax.specs.Programs.{find_proc}
use Rattle.gil_syntax.specs.Evaluation.{Outcomes, evaluate, evaluate_all}
use Rattle.mem_model.specs.Pure.{PureOutcome, done, failed as action_failed, miss}
use Rattle.mem_model.specs.Actions.{Actions}
use Rattle.gil_machine.specs.State.{Frame, State, End, Step, goes_on, ends, IsFailed}
use Rattle.gil_machine.specs.Step.{to_next, to_label, assigned, fails_with, with_value, with_values, handler_label, enter, enter_found, enter_value, resumed, leave, Handling, handled_or, handling, caught, throw_to, after_action, do_action, branch, do_command}

-- ---- frames

pub record IsCalm (f : Frame) : Type 0 where
  pub no_wait : f.waits ≡ None
  pub no_handler : f.handler ≡ None

abbrev pub Waits : Frame → Type 0
Waits f = (x : List ℕ) × (f.waits ≡ Some x)

-- the same frames, but for the store and the next command of the current one
pub record Stays (s t : State) : Type 0 where
  pub same_callers : t.callers ≡ s.callers
  pub same_frame : t.current ≡ record s.current { next = t.current.next; store = t.current.store }

-- a new frame above
pub record Enters (s t : State) : Type 0 where
  pub var : List ℕ
  pub label : Option ℕ
  pub more_callers : t.callers ≡ record s.current { next = s.current.next + 1; waits = Some var; handler = label } ∷ s.callers
  pub is_calm : IsCalm t.current

-- back in a frame below
pub record Leaves (s t : State) : Type 0 where
  pub front : List Frame
  pub frame : Frame
  pub fewer_callers : s.callers ≡ front ++ frame ∷ t.callers
  pub same_procedure : t.current.procedure ≡ frame.procedure
  pub becomes_calm : Waits frame → IsCalm t.current

abbrev pub MovesFrames : State → State → Type 0
MovesFrames s t = Stays s t ⊎ (Enters s t ⊎ Leaves s t)

pub record EndsThere (s : State) (e : End) : Type 0 where
  pub same_heap : e.heap ≡ s.heap
  pub same_counter : e.counter ≡ s.counter

-- what a step from the state leads to
abbrev pub Form : State → Step → Type 0
Form s (goes_on t) = MovesFrames s t × (s.counter ≤ t.counter)
Form s (ends e) = EndsThere s e ⊎ IsFailed e.ending

module _ (first : State) where
  -- the state has the frames of the first one, and no lower counter
  record IsLike (s : State) : Type 0 where
    current : s.current ≡ first.current
    callers : s.callers ≡ first.callers
    counter : first.counter ≤ s.counter

  fails-form : (v : PureValue) (here : Place) (s : State) → Form first (fails_with v here s)
  fails-form v here s = inr tt

  next-form : (s : State) → IsLike s → Form first (to_next s)
  next-form s l = (inl (record { same_callers = l.callers; same_frame = λ i. record (l.current i) { next = s.current.next + 1; store = s.current.store } }), l.counter)

  assigned-form : (x : List ℕ) (v : PureValue) (s : State) → IsLike s → Form first (assigned x v s)
  assigned-form x v s l =
      (inl (record { same_callers = l.callers; same_frame = λ i. record (l.current i) { next = s.current.next + 1; store = record { name = x; value = v } ∷ s.current.store } }), l.counter)

  value-form : (r : Outcome) (here : Place) (s : State) (go_on : PureValue → Step) → ((v : PureValue) → Form first (go_on v)) → Form first (with_value r here s go_on)
  value-form (Ok v) here s go_on form = form v
  value-form (Err f) here s go_on form = inr tt

  values-form : (r : Outcomes) (here : Place) (s : State) (go_on : List PureValue → Step) → ((vs : List PureValue) → Form first (go_on vs)) → Form first (with_values r here s go_on)
  values-form (Ok vs) here s go_on form = form vs
  values-form (Err f) here s go_on form = inr tt

itself : (s : State) → IsLike s s
itself s = record { current = refl; callers = refl; counter = omega arith }

label-form : (i : ℤ) (s : State) → Form s (to_label i s)
label-form (pos i) s = (inl (record { same_callers = refl; same_frame = refl }), omega arith)
label-form (negsuc i) s = (inl (record { same_callers = refl; same_frame = refl }), omega arith)

branch-form : (v : PureValue) (i : ℤ) (here : Place) (s : State) → Form s (branch v i here s)
branch-form (boolean true) i here s = label-form i s
branch-form (boolean false) i here s = next-form s s (itself s)
branch-form (integer n) i here s = inr tt
branch-form (text cs) i here s = inr tt
branch-form (symbol n) i here s = inr tt
branch-form (kind k) i here s = inr tt
branch-form (procedure f) i here s = inr tt
branch-form (list vs) i here s = inr tt

arity-form : (b : Bool) (q : PureProc) (x : List ℕ) (label : Option ℕ) (args : List PureValue) (here : Place) (s : State) → Form s (cond b (enter q x label args s) (fails_with (text (codes "arity")) here s))
arity-form true q x label args here s = (inr (inl (record { var = x; label = label; more_callers = refl; is_calm = record { no_wait = refl; no_handler = refl } })), omega arith)
arity-form false q x label args here s = inr tt

found-form : (q : Option PureProc) (x : List ℕ) (label : Option ℕ) (args : List PureValue) (here : Place) (s : State) → Form s (enter_found q x label args here s)
found-form None x label args here s = inr tt
found-form (Some q) x label args here s = arity-form (length args == length q.params) q x label args here s

enter-form : (p : PureParts) (v : PureValue) (x : List ℕ) (label : Option ℕ) (args : List PureValue) (here : Place) (s : State) → Form s (enter_value p v x label args here s)
enter-form p (procedure f) x label args here s = found-form (find_proc p.procs f) x label args here s
enter-form p (integer n) x label args here s = inr tt
enter-form p (boolean b) x label args here s = inr tt
enter-form p (text cs) x label args here s = inr tt
enter-form p (symbol n) x label args here s = inr tt
enter-form p (kind k) x label args here s = inr tt
enter-form p (list vs) x label args here s = inr tt

-- a frame that waited doesn't any more
resumed_calm : (v : PureValue) (f : Frame) (o : Option (List ℕ)) → f.waits ≡ o → Waits f → IsCalm (resumed o v f)
resumed_calm v f (Some x) is waits = record { no_wait = refl; no_handler = refl }
resumed_calm v f None is (x, waits) = absurd (cc)

resumed_procedure : (v : PureValue) (f : Frame) (o : Option (List ℕ)) → (resumed o v f).procedure ≡ f.procedure
resumed_procedure v f (Some x) = refl
resumed_procedure v f None = refl

pub leave-form : (frames : List Frame) (v : PureValue) (s : State) → s.callers ≡ frames → Form s (leave frames v s)
leave-form [] v s are = inl (record { same_heap = refl; same_counter = refl })
leave-form (f ∷ fs) v s are =
    (inr (inr (record { front = []; frame = f; fewer_callers = are; same_procedure = resumed_procedure v f f.waits; becomes_calm = resumed_calm v f f.waits refl })), omega arith)

record IsHandledIn (frames : List Frame) (h : Handling) : Type 0 where
  front : List Frame
  split : frames ≡ front ++ h.frame ∷ h.callers

handled_in : (frames : List Frame) (h : Handling) → handling frames ≡ Some h → IsHandledIn frames h
handled_in [] h is = absurd (cc)
handled_in (f ∷ fs) h is = by (handled_in fs) f.handler is
  where
    by : ((g : Handling) → handling fs ≡ Some g → IsHandledIn fs g) → (o : Option ℕ) → handled_or o f fs (handling fs) ≡ Some h → IsHandledIn (f ∷ fs) h
    by later (Some i) found =
        let same : record { label = i; frame = f; callers = fs } ≡ h = cc in
        record { front = []; split = λ j. (same j).frame ∷ (same j).callers }
    by later None found = let there = later h found in record { front = f ∷ there.front; split = ap (λ gs. f ∷ gs) there.split }

caught_calm : (i : ℕ) (v : PureValue) (f : Frame) → Waits f → IsCalm (caught i v f)
caught_calm i v f waits = let calm = resumed_calm v f f.waits refl waits in record { no_wait = calm.no_wait; no_handler = calm.no_handler }

pub throw-form : (frames : List Frame) (v : PureValue) (here : Place) (s : State) → s.callers ≡ frames → Form s (throw_to (handling frames) v here s)
throw-form frames v here s are = by (handling frames) refl
  where
    by : (o : Option Handling) → handling frames ≡ o → Form s (throw_to o v here s)
    by None none = inl (record { same_heap = refl; same_counter = refl })
    by (Some h) is =
        let there = handled_in frames h is in (
          inr (inr (record {
            front = there.front;
            frame = h.frame;
            fewer_callers = are ∙ there.split;
            same_procedure = resumed_procedure v h.frame h.frame.waits;
            becomes_calm = caught_calm h.label v h.frame;
          })),
          omega arith,
        )

action-form : (first : State) (o : PureOutcome) (x : List ℕ) (here : Place) (s : State) → IsLike first s → Form first (after_action o x here s)
action-form first (done v) x here s l = assigned-form first x v s l
action-form first (action_failed v) x here s l = inr tt
action-form first (miss k) x here s l = inr tt

do_action-form : (takes : Bool) (m : Actions) (x a : List ℕ) (args : List PureValue) (here : Place) (s : State) → Form s (do_action takes m x a args here s)
do_action-form true m x a args here s = action-form s (m.act a (Some s.counter) args s.heap).outcome x here _ (record { current = refl; callers = refl; counter = omega arith })
do_action-form false m x a args here s = action-form s (m.act a None args s.heap).outcome x here _ (record { current = refl; callers = refl; counter = omega arith })

-- no draw
abbrev pub IsNoDraw : PureCommand → Type 0
IsNoDraw (isym x k) = ⊥
IsNoDraw _ = Unit {0}

module _ (p : PureParts) (m : Actions) (inputs : List PureValue) where
  pub command_form : (c : PureCommand) (here : Place) (s : State) → IsNoDraw c → Form s (do_command p m inputs c here s)
  command_form (assign x e) here s no_draw = value-form s (evaluate e s.current.store) here s _ (λ v. assigned-form s x v s (itself s))
  command_form (call x e es handler) here s no_draw =
      value-form s (evaluate e s.current.store) here s _ (λ f. values-form s (evaluate_all es s.current.store) here s _ (λ args. enter-form p f x (handler_label handler) args here s))
  command_form (act x a es) here s no_draw = values-form s (evaluate_all es s.current.store) here s _ (λ args. do_action-form (m.takes_symbol a) m x a args here s)
  command_form (usym x) here s no_draw = assigned-form s x (symbol s.counter) (record s { counter = s.counter + 1 }) (record { current = refl; callers = refl; counter = omega arith })
  command_form (isym x k) here s no_draw = absurd no_draw
  command_form (ifgoto e i) here s no_draw = value-form s (evaluate e s.current.store) here s _ (λ v. branch-form v i here s)
  command_form (return e) here s no_draw = value-form s (evaluate e s.current.store) here s _ (λ v. leave-form s.callers v s refl)
  command_form (fail e) here s no_draw = value-form s (evaluate e s.current.store) here s _ (λ v. inr tt)
  command_form (throw e) here s no_draw = value-form s (evaluate e s.current.store) here s _ (λ v. throw-form s.callers v here s refl)
  command_form vanish here s no_draw = inl (record { same_heap = refl; same_counter = refl })
  command_form (fold_use u) here s no_draw = next-form s s (itself s)
  command_form (unfold_use u) here s no_draw = next-form s s (itself s)
  command_form (assert_that items) here s no_draw = next-form s s (itself s)
  command_form (loop_invariant xs ps items) here s no_draw = next-form s s (itself s)

pub drawn_form : (x : List ℕ) (v : PureValue) (s : State) (d : ℕ) → Form s (assigned x v (record s { draws = d }))
drawn_form x v s d = assigned-form s x v (record s { draws = d }) (record { current = refl; callers = refl; counter = omega arith })

pub next_form : (s : State) → Form s (to_next s)
next_form s = next-form s s (itself s)

-- ---- draws that were made before

abbrev pub redrawn : ℕ → Step → Step
redrawn d (goes_on t) = goes_on (record t { draws = d })
redrawn d (ends e) = ends (record e { draws = d })

module _ (d : ℕ) where
  value-redrawn : (r : Outcome) (here : Place) (s : State) (large small : PureValue → Step) → ((v : PureValue) → large v ≡ redrawn d (small v)) → with_value r here (record s { draws = d }) large ≡ redrawn d (with_value r here s small)
  value-redrawn (Ok v) here s large small same = same v
  value-redrawn (Err f) here s large small same = refl

  values-redrawn : (r : Outcomes) (here : Place) (s : State) (large small : List PureValue → Step) → ((vs : List PureValue) → large vs ≡ redrawn d (small vs)) → with_values r here (record s { draws = d }) large ≡ redrawn d (with_values r here s small)
  values-redrawn (Ok vs) here s large small same = same vs
  values-redrawn (Err f) here s large small same = refl

  label-redrawn : (i : ℤ) (s : State) → to_label i (record s { draws = d }) ≡ redrawn d (to_label i s)
  label-redrawn (pos i) s = refl
  label-redrawn (negsuc i) s = refl

  branch-redrawn : (v : PureValue) (i : ℤ) (here : Place) (s : State) → branch v i here (record s { draws = d }) ≡ redrawn d (branch v i here s)
  branch-redrawn (boolean true) i here s = label-redrawn i s
  branch-redrawn (boolean false) i here s = refl
  branch-redrawn (integer n) i here s = refl
  branch-redrawn (text cs) i here s = refl
  branch-redrawn (symbol n) i here s = refl
  branch-redrawn (kind k) i here s = refl
  branch-redrawn (procedure f) i here s = refl
  branch-redrawn (list vs) i here s = refl

  arity-redrawn : (b : Bool) (q : PureProc) (x : List ℕ) (label : Option ℕ) (args : List PureValue) (here : Place) (s : State)
      → cond b (enter q x label args (record s { draws = d })) (fails_with (text (codes "arity")) here (record s { draws = d })) ≡ redrawn d (cond b (enter q x label args s) (fails_with (text (codes "arity")) here s))
  arity-redrawn true q x label args here s = refl
  arity-redrawn false q x label args here s = refl

  found-redrawn : (q : Option PureProc) (x : List ℕ) (label : Option ℕ) (args : List PureValue) (here : Place) (s : State) → enter_found q x label args here (record s { draws = d }) ≡ redrawn d (enter_found q x label args here s)
  found-redrawn None x label args here s = refl
  found-redrawn (Some q) x label args here s = arity-redrawn (length args == length q.params) q x label args here s

  enter-redrawn : (p : PureParts) (v : PureValue) (x : List ℕ) (label : Option ℕ) (args : List PureValue) (here : Place) (s : State) → enter_value p v x label args here (record s { draws = d }) ≡ redrawn d (enter_value p v x label args here s)
  enter-redrawn p (procedure f) x label args here s = found-redrawn (find_proc p.procs f) x label args here s
  enter-redrawn p (integer n) x label args here s = refl
  enter-redrawn p (boolean b) x label args here s = refl
  enter-redrawn p (text cs) x label args here s = refl
  enter-redrawn p (symbol n) x label args here s = refl
  enter-redrawn p (kind k) x label args here s = refl
  enter-redrawn p (list vs) x label args here s = refl

  pub leave-redrawn : (frames : List Frame) (v : PureValue) (s : State) → leave frames v (record s { draws = d }) ≡ redrawn d (leave frames v s)
  leave-redrawn [] v s = refl
  leave-redrawn (f ∷ fs) v s = refl

  pub throw-redrawn : (o : Option Handling) (v : PureValue) (here : Place) (s : State) → throw_to o v here (record s { draws = d }) ≡ redrawn d (throw_to o v here s)
  throw-redrawn (Some h) v here s = refl
  throw-redrawn None v here s = refl

  action-redrawn : (o : PureOutcome) (x : List ℕ) (here : Place) (s : State) → after_action o x here (record s { draws = d }) ≡ redrawn d (after_action o x here s)
  action-redrawn (done v) x here s = refl
  action-redrawn (action_failed v) x here s = refl
  action-redrawn (miss k) x here s = refl

  do_action-redrawn : (takes : Bool) (m : Actions) (x a : List ℕ) (args : List PureValue) (here : Place) (s : State) → do_action takes m x a args here (record s { draws = d }) ≡ redrawn d (do_action takes m x a args here s)
  do_action-redrawn true m x a args here s = action-redrawn (m.act a (Some s.counter) args s.heap).outcome x here (record s { heap = (m.act a (Some s.counter) args s.heap).heap; counter = s.counter + 1 })
  do_action-redrawn false m x a args here s = action-redrawn (m.act a None args s.heap).outcome x here (record s { heap = (m.act a None args s.heap).heap })

  -- without a draw a command does the same whatever the inputs
  pub command_redrawn : (p : PureParts) (m : Actions) (inputs : List PureValue) (c : PureCommand) (here : Place) (s : State) → IsNoDraw c → do_command p m inputs c here (record s { draws = d }) ≡ redrawn d (do_command p m [] c here s)
  command_redrawn p m inputs (assign x e) here s no_draw = value-redrawn (evaluate e s.current.store) here s _ _ (λ v. refl)
  command_redrawn p m inputs (call x e es handler) here s no_draw =
      value-redrawn (evaluate e s.current.store) here s _ _ (λ f. values-redrawn (evaluate_all es s.current.store) here s _ _ (λ args. enter-redrawn p f x (handler_label handler) args here s))
  command_redrawn p m inputs (act x a es) here s no_draw = values-redrawn (evaluate_all es s.current.store) here s _ _ (λ args. do_action-redrawn (m.takes_symbol a) m x a args here s)
  command_redrawn p m inputs (usym x) here s no_draw = refl
  command_redrawn p m inputs (isym x k) here s no_draw = absurd no_draw
  command_redrawn p m inputs (ifgoto e i) here s no_draw = value-redrawn (evaluate e s.current.store) here s _ _ (λ v. branch-redrawn v i here s)
  command_redrawn p m inputs (return e) here s no_draw = value-redrawn (evaluate e s.current.store) here s _ _ (λ v. leave-redrawn s.callers v s)
  command_redrawn p m inputs (fail e) here s no_draw = value-redrawn (evaluate e s.current.store) here s _ _ (λ v. refl)
  command_redrawn p m inputs (throw e) here s no_draw = value-redrawn (evaluate e s.current.store) here s _ _ (λ v. throw-redrawn (handling s.callers) v here s)
  command_redrawn p m inputs vanish here s no_draw = refl
  command_redrawn p m inputs (fold_use u) here s no_draw = refl
  command_redrawn p m inputs (unfold_use u) here s no_draw = refl
  command_redrawn p m inputs (assert_that items) here s no_draw = refl
  command_redrawn p m inputs (loop_invariant xs ps items) here s no_draw = refl
