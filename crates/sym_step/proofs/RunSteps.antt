-- One more step of a run, and what it does to choices, symbols and draws.
use Rattle.std.proofs.Common.{◌≡◌, inl, inr, ℕ, zero, suc, ◌+◌, ◌≤◌, ℤ, pos, negsuc, List, [], ◌∷◌, ◌++◌, Bool, true, false, ◌==◌, if◌then◌else◌, length, slice_get, Option, Some, None, is_some, Ok, Err, refl, sym, ap, subst, ◌∙◌, arith}
use Rattle.std.specs.Option.{option_map}
use Rattle.gil_values.specs.declared.kinds.Kind.{Kind}
use Rattle.gil_values.specs.declared.places.Place.{Place}
use Rattle.gil_values.specs.Equality.{same_kind}
use Rattle.gil_values.specs.Operators.{Outcome}
use Rattle.gil_values.specs.Pure.{PureValue, integer, boolean, text, symbol, kind, procedure, list, kind_of}
use Rattle.gil_syntax.specs.Evaluation.{Outcomes, evaluate, evaluate_all}
use Rattle.gil_syntax.specs.Programs.{find_proc}
use Rattle.gil_syntax.specs.Pure.{PureCommand, assign, call, act, usym, isym, ifgoto, return, fail, throw, vanish, fold_use, unfold_use, assert_that, loop_invariant, PureNumberedCommand, PureProc, PureParts}
use Rattle.gil_machine.specs.Choices.{choices, choice_at, choice_of, with_choice, later_choices, of_value, of_values, guard_choice, outcome_choice}
use Rattle.gil_machine.specs.Run.{run, after, reached, and_then}
use Rattle.gil_machine.specs.State.{Frame, State, End, Step, goes_on, ends, end_at, cut, IsOver}
use Rattle.gil_machine.specs.Step.{step, do_command, command_at, to_next, with_value, with_values, assigned, branch, draw, do_action, after_action, action_result, enter_found, enter_value, leave, handler_label, Handling, handling, throw_to}
use Rattle.gil_machine.proofs.Runs.{stays_over}
use Rattle.mem_model.specs.Actions.{Actions, ActionResult}
use Rattle.mem_model.specs.Pure.{PureOutcome, done, failed as action_failed, miss}
use Rattle.sym_step.specs.Runs.{EndsAfter}
use Rattle.sym_model.proofs.ListLaws.{same_some, not_none}
use Rattle.sym_paths.proofs.Recording.{symbols_taken}
use Rattle.sym_paths.proofs.Silent.{step-is, choice-is}
use Rattle.sym_paths.specs.Steps.{makes_choice}

-- ---- one more step

module _ (p : PureParts) (m : Actions) (inputs : List PureValue) where
  reached_through : (r : Step) (n : ℕ) (s t : State) → ((u : State) → reached p m inputs n u ≡ Some s → reached p m inputs (suc n) u ≡ Some t)
      → and_then r (reached p m inputs n) ≡ Some s → and_then r (reached p m inputs (suc n)) ≡ Some t
  reached_through (goes_on u) n s t go at = go u at
  reached_through (ends e) n s t go at = not_none at

  pub reached_next : (n : ℕ) (s0 s t : State) → reached p m inputs n s0 ≡ Some s → step p m inputs s ≡ goes_on t → reached p m inputs (suc n) s0 ≡ Some t
  reached_next zero s0 s t at goes = ap (λ r. and_then r (reached p m inputs zero)) (ap (step p m inputs) (same_some at) ∙ goes)
  reached_next (suc n) s0 s t at goes = reached_through (step p m inputs s0) n s t (λ u before. reached_next n u s t before goes) at

  -- the state before the last step
  abbrev pub Before : ℕ → State → State → Type 0
  Before n s0 t = (s : State) × ((reached p m inputs n s0 ≡ Some s) × (step p m inputs s ≡ goes_on t))

  before_through : (r : Step) (n : ℕ) (t : State) → ((u : State) → reached p m inputs (suc n) u ≡ Some t → Before n u t)
      → and_then r (reached p m inputs (suc n)) ≡ Some t → (s : State) × ((and_then r (reached p m inputs n) ≡ Some s) × (step p m inputs s ≡ goes_on t))
  before_through (goes_on u) n t go at = go u at
  before_through (ends e) n t go at = not_none at

  first_step : (r : Step) (t : State) → and_then r (reached p m inputs zero) ≡ Some t → r ≡ goes_on t
  first_step (goes_on u) t at = ap goes_on (same_some at)
  first_step (ends e) t at = not_none at

  pub before_last : (n : ℕ) (s0 t : State) → reached p m inputs (suc n) s0 ≡ Some t → Before n s0 t
  before_last zero s0 t at = (s0, (refl, first_step (step p m inputs s0) t at))
  before_last (suc n) s0 t at = before_through (step p m inputs s0) n t (λ u. before_last n u t) at

  ends_through : (r : Step) (n : ℕ) (s : State) (e : End) → ((u : State) → reached p m inputs n u ≡ Some s → run p m inputs (suc n) u ≡ e)
      → and_then r (reached p m inputs n) ≡ Some s → after r (run p m inputs (suc n)) ≡ e
  ends_through (goes_on u) n s e go at = go u at
  ends_through (ends x) n s e go at = not_none at

  pub ends_with : (n : ℕ) (s0 s : State) (e : End) → reached p m inputs n s0 ≡ Some s → step p m inputs s ≡ ends e → run p m inputs (suc n) s0 ≡ e
  ends_with zero s0 s e at is = ap (λ r. after r (run p m inputs zero)) (ap (step p m inputs) (same_some at) ∙ is)
  ends_with (suc n) s0 s e at is = ends_through (step p m inputs s0) n s e (λ u before. ends_with n u s e before is) at

  cut_through : (r : Step) (n : ℕ) (s : State) → ((u : State) → reached p m inputs n u ≡ Some s → run p m inputs n u ≡ end_at s cut)
      → and_then r (reached p m inputs n) ≡ Some s → after r (run p m inputs n) ≡ end_at s cut
  cut_through (goes_on u) n s go at = go u at
  cut_through (ends x) n s go at = not_none at

  pub cut_with : (n : ℕ) (s0 s : State) → reached p m inputs n s0 ≡ Some s → run p m inputs n s0 ≡ end_at s cut
  cut_with zero s0 s at = ap (λ u. end_at u cut) (same_some at)
  cut_with (suc n) s0 s at = cut_through (step p m inputs s0) n s (λ u. cut_with n u s) at

  -- ---- choices

  choice_append : (o : Option ℕ) (xs ys : List ℕ) → with_choice o (xs ++ ys) ≡ with_choice o xs ++ ys
  choice_append (Some c) xs ys = refl
  choice_append None xs ys = refl

  none_later : (r : Step) → later_choices r (choices p m inputs zero) ≡ []
  none_later (goes_on t) = refl
  none_later (ends e) = refl

  choices_through : (r : Step) (o : Option ℕ) (n : ℕ) (s : State) (last : List ℕ) → ((u : State) → reached p m inputs n u ≡ Some s → choices p m inputs (suc n) u ≡ choices p m inputs n u ++ last)
      → and_then r (reached p m inputs n) ≡ Some s
      → with_choice o (later_choices r (choices p m inputs (suc n))) ≡ with_choice o (later_choices r (choices p m inputs n)) ++ last
  choices_through (goes_on u) o n s last go at = ap (with_choice o) (go u at) ∙ choice_append o (choices p m inputs n u) last
  choices_through (ends e) o n s last go at = not_none at

  pub choices_next : (n : ℕ) (s0 s : State) → reached p m inputs n s0 ≡ Some s
      → choices p m inputs (suc n) s0 ≡ choices p m inputs n s0 ++ with_choice (choice_at p m s) []
  choices_next zero s0 s at = ap (with_choice (choice_at p m s0)) (none_later (step p m inputs s0)) ∙ ap (λ u. with_choice (choice_at p m u) []) (same_some at)
  choices_next (suc n) s0 s at =
      choices_through (step p m inputs s0) (choice_at p m s0) n s (with_choice (choice_at p m s) []) (λ u. choices_next n u s) at

-- ---- ends of runs

pub ends_are_of_runs : (p : PureParts) (m : Actions) (inputs : List PureValue) (s0 s : State) (n : ℕ) (e : End) → EndsAfter p m inputs s0 n s e → run p m inputs n s0 ≡ e
ends_are_of_runs p m inputs s0 s n e (inl (k, (is, at, last))) = ap (λ j. run p m inputs j s0) is ∙ ends_with p m inputs k s0 s e at last
ends_are_of_runs p m inputs s0 s n e (inr (at, is)) = cut_with p m inputs n s0 s at ∙ sym is

pub ends_stay : (p : PureParts) (m : Actions) (inputs : List PureValue) (s0 s : State) (n : ℕ) (e : End) → EndsAfter p m inputs s0 n s e
    → (bound : ℕ) → n ≤ bound → IsOver e.ending → run p m inputs bound s0 ≡ e
ends_stay p m inputs s0 s n e after bound within over =
    let is : run p m inputs n s0 ≡ e = ends_are_of_runs p m inputs s0 s n e after in
    stays_over p m inputs n bound s0 within (subst (λ (x : End). IsOver x.ending) (sym is) over) ∙ is

-- ---- symbols and choices of one step

-- where the step goes on, the counter is this, and there is a choice exactly if this says so
pub record DoesOf (counter : ℕ) (chosen : Bool) (choice : Option ℕ) (t : State) : Type 0 where
  pub counter_is : t.counter ≡ counter
  pub chosen_is : is_some choice ≡ chosen

abbrev Does : ℕ → Bool → Option ℕ → Step → Type 0
Does n b o (goes_on t) = DoesOf n b o t
Does n b o (ends e) = Unit {0}

goes : (n : ℕ) (b : Bool) (o : Option ℕ) (t : State) → t.counter ≡ n → is_some o ≡ b → Does n b o (goes_on t)
goes n b o t counter chosen = record { counter_is = counter; chosen_is = chosen }

of_assigned : (n : ℕ) (x : List ℕ) (v : PureValue) (s : State) → s.counter ≡ n → Does n false None (assigned x v s)
of_assigned n x v s is = goes n false None _ is refl

of_with_value : (n : ℕ) (b : Bool) (o : Option ℕ) (r : Outcome) (here : Place) (s : State) (go : PureValue → Step) → ((v : PureValue) → Does n b o (go v)) → Does n b o (with_value r here s go)
of_with_value n b o (Ok v) here s go does = does v
of_with_value n b o (Err f) here s go does = tt

of_with_values : (n : ℕ) (b : Bool) (o : Option ℕ) (r : Outcomes) (here : Place) (s : State) (go : List PureValue → Step) → ((vs : List PureValue) → Does n b o (go vs)) → Does n b o (with_values r here s go)
of_with_values n b o (Ok vs) here s go does = does vs
of_with_values n b o (Err f) here s go does = tt

of_branch : (v : PureValue) (i : ℤ) (here : Place) (s : State) → Does s.counter true (guard_choice v) (branch v i here s)
of_branch (boolean true) (pos i) here s = goes s.counter true (Some 1) _ refl refl
of_branch (boolean true) (negsuc i) here s = goes s.counter true (Some 1) _ refl refl
of_branch (boolean false) i here s = goes s.counter true (Some 0) _ refl refl
of_branch (integer n) i here s = tt
of_branch (text cs) i here s = tt
of_branch (symbol n) i here s = tt
of_branch (kind k) i here s = tt
of_branch (procedure f) i here s = tt
of_branch (list vs) i here s = tt

of_guard : (r : Outcome) (i : ℤ) (here : Place) (s : State) → Does s.counter true (of_value guard_choice r) (with_value r here s (λ v. branch v i here s))
of_guard (Ok v) i here s = of_branch v i here s
of_guard (Err f) i here s = tt

of_fit : (b : Bool) (x : List ℕ) (v : PureValue) (s : State) (e : End) → Does s.counter false None (if b then assigned x v s else ends e)
of_fit true x v s e = of_assigned s.counter x v s refl
of_fit false x v s e = tt

of_draw : (o : Option PureValue) (x : List ℕ) (k : Kind) (s : State) → Does s.counter false None (draw o x k s)
of_draw None x k s = tt
of_draw (Some v) x k s = of_fit (same_kind (kind_of v) k) x v s _

of_entering : (b : Bool) (q : PureProc) (x : List ℕ) (args : List PureValue) (here : Place) (s t : State) (e : End) → t.counter ≡ s.counter → Does s.counter false None (if b then goes_on t else ends e)
of_entering true q x args here s t e is = goes s.counter false None t is refl
of_entering false q x args here s t e is = tt

of_found : (o : Option PureProc) (x : List ℕ) (handler : Option ℕ) (args : List PureValue) (here : Place) (s : State) → Does s.counter false None (enter_found o x handler args here s)
of_found None x handler args here s = tt
of_found (Some q) x handler args here s = of_entering (length args == length q.params) q x args here s _ _ refl

of_callee : (p : PureParts) (v : PureValue) (x : List ℕ) (handler : Option ℕ) (args : List PureValue) (here : Place) (s : State) → Does s.counter false None (enter_value p v x handler args here s)
of_callee p (procedure f) x handler args here s = of_found (find_proc p.procs f) x handler args here s
of_callee p (integer n) x handler args here s = tt
of_callee p (boolean b) x handler args here s = tt
of_callee p (text cs) x handler args here s = tt
of_callee p (symbol n) x handler args here s = tt
of_callee p (kind k) x handler args here s = tt
of_callee p (list vs) x handler args here s = tt

of_leave : (callers : List Frame) (v : PureValue) (s : State) → Does s.counter false None (leave callers v s)
of_leave [] v s = tt
of_leave (caller ∷ callers) v s = goes s.counter false None _ refl refl

of_throw : (o : Option Handling) (v : PureValue) (here : Place) (s : State) → Does s.counter false None (throw_to o v here s)
of_throw (Some h) v here s = goes s.counter false None _ refl refl
of_throw None v here s = tt

of_outcome : (n : ℕ) (o : PureOutcome) (x : List ℕ) (here : Place) (s : State) → s.counter ≡ n → Does n true (Some (outcome_choice o)) (after_action o x here s)
of_outcome n (done v) x here s is = goes n true (Some 0) _ is refl
of_outcome n (action_failed v) x here s is = tt
of_outcome n (miss k) x here s is = tt

of_action : (takes : Bool) (m : Actions) (x a : List ℕ) (args : List PureValue) (here : Place) (s : State)
    → Does (s.counter + (if takes then 1 else 0)) true (Some (outcome_choice (action_result takes m a args s).outcome)) (do_action takes m x a args here s)
of_action true m x a args here s = of_outcome (s.counter + 1) (action_result true m a args s).outcome x here _ refl
of_action false m x a args here s = of_outcome (s.counter + 0) (action_result false m a args s).outcome x here _ (omega arith)

of_actions : (r : Outcomes) (m : Actions) (x a : List ℕ) (here : Place) (s : State)
    → Does (s.counter + (if m.takes_symbol a then 1 else 0)) true (option_map (λ (w : ActionResult). outcome_choice w.outcome) (of_values (λ args. Some (action_result (m.takes_symbol a) m a args s)) r))
    (with_values r here s (λ args. do_action (m.takes_symbol a) m x a args here s))
of_actions (Ok args) m x a here s = of_action (m.takes_symbol a) m x a args here s
of_actions (Err f) m x a here s = tt

none_taken : (n : ℕ) (b : Bool) (o : Option ℕ) (r : Step) → Does n b o r → Does (n + 0) b o r
none_taken n b o r does = let same : n ≡ n + 0 = omega arith in subst (λ k. Does k b o r) same does

abbrev next_state : State → State
next_state s = record s { current = record s.current { next = s.current.next + 1 } }

module _ (p : PureParts) (m : Actions) (inputs : List PureValue) where
  does_command : (k : PureCommand) (here : Place) (s : State) → Does (s.counter + symbols_taken m k) (makes_choice k) (choice_of p m k s) (do_command p m inputs k here s)
  does_command (assign x e) here s = none_taken s.counter false None _ (of_with_value s.counter false None (evaluate e s.current.store) here s _ (λ v. of_assigned s.counter x v s refl))
  does_command (call x e es handler) here s =
      none_taken s.counter false None _
      (of_with_value s.counter false None (evaluate e s.current.store) here s _ (λ f. of_with_values s.counter false None (evaluate_all es s.current.store) here s _ (λ args. of_callee p f x (handler_label handler) args here s)))
  does_command (act x a es) here s = of_actions (evaluate_all es s.current.store) m x a here s
  does_command (usym x) here s = of_assigned (s.counter + 1) x (symbol s.counter) (record s { counter = s.counter + 1 }) refl
  does_command (isym x k) here s = none_taken s.counter false None _ (of_draw (slice_get inputs s.draws) x k (record s { draws = s.draws + 1 }))
  does_command (ifgoto e i) here s = none_taken s.counter true _ _ (of_guard (evaluate e s.current.store) i here s)
  does_command (return e) here s = none_taken s.counter false None _ (of_with_value s.counter false None (evaluate e s.current.store) here s _ (λ v. of_leave s.callers v s))
  does_command (fail e) here s = none_taken s.counter false None _ (of_with_value s.counter false None (evaluate e s.current.store) here s _ (λ v. tt))
  does_command (throw e) here s = none_taken s.counter false None _ (of_with_value s.counter false None (evaluate e s.current.store) here s _ (λ v. of_throw (handling s.callers) v here s))
  does_command vanish here s = tt
  does_command (fold_use u) here s = none_taken s.counter false None (to_next s) (goes s.counter false None (next_state s) refl refl)
  does_command (unfold_use u) here s = none_taken s.counter false None (to_next s) (goes s.counter false None (next_state s) refl refl)
  does_command (assert_that items) here s = none_taken s.counter false None (to_next s) (goes s.counter false None (next_state s) refl refl)
  does_command (loop_invariant xs ps items) here s = none_taken s.counter false None (to_next s) (goes s.counter false None (next_state s) refl refl)

  pub step_does : (s t : State) (c : PureNumberedCommand) → command_at p s.current ≡ Some c → step p m inputs s ≡ goes_on t
      → DoesOf (s.counter + symbols_taken m c.command) (makes_choice c.command) (choice_at p m s) t
  step_does s t c at goes =
      let at_step = does_command c.command (record { proc = s.current.procedure; at = c.at }) s in
      let by_choice = subst (λ o. Does (s.counter + symbols_taken m c.command) (makes_choice c.command) o (do_command p m inputs c.command (record { proc = s.current.procedure; at = c.at }) s)) (sym (choice-is p m inputs s c c.command at refl)) at_step in
      subst (Does (s.counter + symbols_taken m c.command) (makes_choice c.command) (choice_at p m s)) (sym (step-is p m inputs s c c.command at refl) ∙ goes) by_choice
