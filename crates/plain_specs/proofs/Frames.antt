-- In which procedures frames are, step by step, and how many draws there were.
use Rattle.std.proofs.Common.{◌≡◌, ℕ, ℤ, pos, negsuc, List, [], ◌∷◌, Bool, true, false, cond, Option, Some, None, Ok, Err, All, length, refl, sym, ap, subst, ◌∙◌}
use Rattle.std.specs.Prelude.{◌==◌, codes, ⊤}
use Rattle.std.specs.Option.{IfSome}
use Rattle.std.specs.Str.{bytes_eq}
use Rattle.std.proofs.lemmas.List.Elements.{All-cons, All-head, All-tail}
use Rattle.std.proofs.lemmas.Slice.Eq.{bytes_eq-Decides}
use Rattle.gil_values.specs.declared.places.Place.{Place}
use Rattle.gil_values.specs.Pure.{PureValue, integer, boolean, text, symbol, kind, procedure, list}
use Rattle.gil_values.specs.Operators.{Outcome}
use Rattle.gil_syntax.specs.Pure.{PureExpr, literal, name, logical, list_of, unary_of, binary_of, PureCommand, assign, call, act, usym, isym, ifgoto, return, fail, throw, vanish, fold_use, unfold_use, assert_that, loop_invariant, PureProc, PureParts}
use Rattle.gil_syntax.specs.Programs.{find_proc}
use Rattle.gil_syntax.specs.Evaluation.{Outcomes, evaluate, evaluate_all}
use Rattle.gil_syntax.specs.Simple.{is_literal}
use Rattle.mem_model.specs.Pure.{PureOutcome, done, failed as action_failed, miss}
use Rattle.mem_model.specs.Actions.{Actions}
use Rattle.gil_machine.specs.State.{Frame, State, Step, goes_on, ends}
use Rattle.gil_machine.specs.Step.{to_next, to_label, fails_with, with_value, with_values, handler_label, enter, enter_found, enter_value, resumed, leave, Handling, handled_or, handling, throw_to, after_action, do_action, branch, do_command}
use Rattle.plain_specs.specs.Contained.{is_told_by_itself}

pub same_some : {X : Type 0} {x y : X} → Some x ≡ Some y → x ≡ y
same_some is = cc

pub no_value : {X : Type 0} {P : Type 0} (x : X) → None ≡ Some x → P
no_value x is = absurd (cc)

pub found_name : (qs : List PureProc) (f : List ℕ) (q : PureProc) → find_proc qs f ≡ Some q → q.name ≡ f
found_name [] f q is = no_value q is
found_name (r ∷ rs) f q is = by (found_name rs f q) (bytes_eq r.name f) refl is
  where
    by : (find_proc rs f ≡ Some q → q.name ≡ f) → (b : Bool) → bytes_eq r.name f ≡ b → cond b (Some r) (find_proc rs f) ≡ Some q → q.name ≡ f
    by later true same found = ap (λ x. x.name) (sym (same_some found)) ∙ (bytes_eq-Decides r.name f).0 same
    by later false other found = later found

module _ (P : List ℕ → Type 0) where
  abbrev pub FrameIsIn : Frame → Type 0
  FrameIsIn f = P f.procedure

  -- each frame is of such a procedure
  pub record AreIn (s : State) : Type 0 where
    pub current : P s.current.procedure
    pub callers : All FrameIsIn s.callers

  -- so are those after the step, which is no draw
  abbrev pub Stays : ℕ → Step → Type 0
  Stays d (goes_on t) = (t.draws ≡ d) × AreIn t
  Stays d (ends e) = ⊤

  same_frames : (s t : State) → AreIn s → t.current.procedure ≡ s.current.procedure → t.callers ≡ s.callers → AreIn t
  same_frames s t h current callers = record { current = subst P (sym current) h.current; callers = subst (All FrameIsIn) (sym callers) h.callers }

  label-stays : (i : ℤ) (s : State) → AreIn s → Stays s.draws (to_label i s)
  label-stays (pos i) s h = (refl, record { current = h.current; callers = h.callers })
  label-stays (negsuc i) s h = (refl, h)

  next-stays : (s : State) → AreIn s → Stays s.draws (to_next s)
  next-stays s h = (refl, record { current = h.current; callers = h.callers })

  value-stays : (d : ℕ) (r : Outcome) (here : Place) (s : State) (go_on : PureValue → Step) → ((v : PureValue) → Stays d (go_on v)) → Stays d (with_value r here s go_on)
  value-stays d (Ok v) here s go_on k = k v
  value-stays d (Err f) here s go_on k = tt

  values-stay : (d : ℕ) (r : Outcomes) (here : Place) (s : State) (go_on : List PureValue → Step) → ((vs : List PureValue) → Stays d (go_on vs)) → Stays d (with_values r here s go_on)
  values-stay d (Ok vs) here s go_on k = k vs
  values-stay d (Err f) here s go_on k = tt

  arity-stays : (b : Bool) (q : PureProc) (x : List ℕ) (handler : Option ℕ) (args : List PureValue) (here : Place) (s : State) → P q.name → AreIn s → Stays s.draws (cond b (enter q x handler args s) (fails_with (text (codes "arity")) here s))
  arity-stays true q x handler args here s is h = (refl, record { current = is; callers = All-cons FrameIsIn _ s.callers h.current h.callers })
  arity-stays false q x handler args here s is h = tt

  found-stays : (p : PureParts) (f : List ℕ) (o : Option PureProc) → find_proc p.procs f ≡ o → P f → (x : List ℕ) (handler : Option ℕ) (args : List PureValue) (here : Place) (s : State) → AreIn s → Stays s.draws (enter_found o x handler args here s)
  found-stays p f None found is x handler args here s h = tt
  found-stays p f (Some q) found is x handler args here s h = arity-stays (length args == length q.params) q x handler args here s (subst P (sym (found_name p.procs f q found)) is) h

  enter-stays : (p : PureParts) (v : PureValue) → ((f : List ℕ) → v ≡ procedure f → P f) → (x : List ℕ) (handler : Option ℕ) (args : List PureValue) (here : Place) (s : State) → AreIn s → Stays s.draws (enter_value p v x handler args here s)
  enter-stays p (procedure f) named x handler args here s h = found-stays p f (find_proc p.procs f) refl (named f refl) x handler args here s h
  enter-stays p (integer n) named x handler args here s h = tt
  enter-stays p (boolean b) named x handler args here s h = tt
  enter-stays p (text cs) named x handler args here s h = tt
  enter-stays p (symbol n) named x handler args here s h = tt
  enter-stays p (kind k) named x handler args here s h = tt
  enter-stays p (list vs) named x handler args here s h = tt

  resumed-in : (w : Option (List ℕ)) (v : PureValue) (frame : Frame) → FrameIsIn frame → FrameIsIn (resumed w v frame)
  resumed-in (Some x) v frame h = h
  resumed-in None v frame h = h

  leave-stays : (callers : List Frame) (v : PureValue) (s : State) → All FrameIsIn callers → Stays s.draws (leave callers v s)
  leave-stays [] v s h = tt
  leave-stays (caller ∷ callers) v s h =
      (refl, record { current = resumed-in caller.waits v caller (All-head FrameIsIn caller callers h); callers = All-tail FrameIsIn caller callers h })

  abbrev AreHandledIn : Option Handling → Type 0
  AreHandledIn o = IfSome o (λ h. FrameIsIn h.frame × All FrameIsIn h.callers)

  or-in : (o : Option ℕ) (frame : Frame) (callers : List Frame) (below : Option Handling) → FrameIsIn frame → All FrameIsIn callers → AreHandledIn below → AreHandledIn (handled_or o frame callers below)
  or-in (Some i) frame callers below h k rest = (h, k)
  or-in None frame callers below h k rest = rest

  handled-in : (callers : List Frame) → All FrameIsIn callers → AreHandledIn (handling callers)
  handled-in [] h = tt
  handled-in (caller ∷ callers) h =
      let rest = All-tail FrameIsIn caller callers h in
      or-in caller.handler caller callers (handling callers) (All-head FrameIsIn caller callers h) rest (handled-in callers rest)

  throw-stays : (o : Option Handling) (v : PureValue) (here : Place) (s : State) → AreHandledIn o → Stays s.draws (throw_to o v here s)
  throw-stays (Some taken) v here s h = (refl, record { current = resumed-in taken.frame.waits v taken.frame h.0; callers = h.1 })
  throw-stays None v here s h = tt

  action-stays : (o : PureOutcome) (x : List ℕ) (here : Place) (s : State) → AreIn s → Stays s.draws (after_action o x here s)
  action-stays (done v) x here s h = (refl, record { current = h.current; callers = h.callers })
  action-stays (action_failed v) x here s h = tt
  action-stays (miss k) x here s h = tt

  do_action-stays : (b : Bool) (m : Actions) (x a : List ℕ) (args : List PureValue) (here : Place) (s : State) → AreIn s → Stays s.draws (do_action b m x a args here s)
  do_action-stays true m x a args here s h = action-stays _ x here _ (record { current = h.current; callers = h.callers })
  do_action-stays false m x a args here s h = action-stays _ x here _ (record { current = h.current; callers = h.callers })

  branch-stays : (v : PureValue) (i : ℤ) (here : Place) (s : State) → AreIn s → Stays s.draws (branch v i here s)
  branch-stays (boolean true) i here s h = label-stays i s h
  branch-stays (boolean false) i here s h = next-stays s h
  branch-stays (integer n) i here s h = tt
  branch-stays (text cs) i here s h = tt
  branch-stays (symbol n) i here s h = tt
  branch-stays (kind k) i here s h = tt
  branch-stays (procedure f) i here s h = tt
  branch-stays (list vs) i here s h = tt

  -- what a call names
  callee-stays : (p : PureParts) (e : PureExpr) → is_literal e ≡ true → ((f : List ℕ) → e ≡ literal (procedure f) → P f) → (es : List PureExpr) (x : List ℕ) (handler : Option ℕ) (here : Place) (s : State) → AreIn s
      → Stays s.draws (with_value (evaluate e s.current.store) here s (λ f. with_values (evaluate_all es s.current.store) here s (λ args. enter_value p f x handler args here s)))
  callee-stays p (literal v) is named es x handler here s h =
      values-stay s.draws (evaluate_all es s.current.store) here s _ (λ args. enter-stays p v (λ f same. named f (ap literal same)) x handler args here s h)
  callee-stays p (name y) is named es x handler here s h = absurd (cc)
  callee-stays p (logical y) is named es x handler here s h = absurd (cc)
  callee-stays p (list_of ds) is named es x handler here s h = absurd (cc)
  callee-stays p (unary_of op d) is named es x handler here s h = absurd (cc)
  callee-stays p (binary_of op d e) is named es x handler here s h = absurd (cc)

  -- the procedures that the command calls are such
  abbrev pub CallsOnly : PureCommand → Type 0
  CallsOnly c = (x : List ℕ) (es : List PureExpr) (handler : Option ℤ) (f : List ℕ) → c ≡ call x (literal (procedure f)) es handler → P f

  abbrev pub IsNoDraw : PureCommand → Type 0
  IsNoDraw (isym x k) = ⊥
  IsNoDraw c = ⊤

  module _ (p : PureParts) (m : Actions) (inputs : List PureValue) where
    pub command-stays : (c : PureCommand) (here : Place) (s : State) → is_told_by_itself c ≡ true → CallsOnly c → IsNoDraw c → AreIn s → Stays s.draws (do_command p m inputs c here s)
    command-stays (assign x e) here s told calls no_draw h = value-stays s.draws (evaluate e s.current.store) here s _ (λ v. (refl, record { current = h.current; callers = h.callers }))
    command-stays (call x e es handler) here s told calls no_draw h =
        callee-stays p e told (λ f same. calls x es handler f (ap (λ d. call x d es handler) same)) es x (handler_label handler) here s h
    command-stays (act x a es) here s told calls no_draw h = values-stay s.draws (evaluate_all es s.current.store) here s _ (λ args. do_action-stays (m.takes_symbol a) m x a args here s h)
    command-stays (usym x) here s told calls no_draw h = (refl, record { current = h.current; callers = h.callers })
    command-stays (isym x k) here s told calls no_draw h = absurd no_draw
    command-stays (ifgoto e i) here s told calls no_draw h = value-stays s.draws (evaluate e s.current.store) here s _ (λ v. branch-stays v i here s h)
    command-stays (return e) here s told calls no_draw h = value-stays s.draws (evaluate e s.current.store) here s _ (λ v. leave-stays s.callers v s h.callers)
    command-stays (fail e) here s told calls no_draw h = value-stays s.draws (evaluate e s.current.store) here s _ (λ v. tt)
    command-stays (throw e) here s told calls no_draw h = value-stays s.draws (evaluate e s.current.store) here s _ (λ v. throw-stays (handling s.callers) v here s (handled-in s.callers h.callers))
    command-stays vanish here s told calls no_draw h = tt
    command-stays (fold_use u) here s told calls no_draw h = next-stays s h
    command-stays (unfold_use u) here s told calls no_draw h = next-stays s h
    command-stays (assert_that items) here s told calls no_draw h = next-stays s h
    command-stays (loop_invariant xs ps items) here s told calls no_draw h = next-stays s h

-- ---- the procedure that a call enters

module _ (Q : List ℕ → Type 0) where
  -- the procedure of the current frame after the step
  abbrev pub NamesCurrent : Step → Type 0
  NamesCurrent (goes_on t) = Q t.current.procedure
  NamesCurrent (ends e) = ⊤

  arity-names : (b : Bool) (q : PureProc) (x : List ℕ) (handler : Option ℕ) (args : List PureValue) (here : Place) (s : State) → Q q.name → NamesCurrent (cond b (enter q x handler args s) (fails_with (text (codes "arity")) here s))
  arity-names true q x handler args here s is = is
  arity-names false q x handler args here s is = tt

  found-names : (p : PureParts) (f : List ℕ) (o : Option PureProc) → find_proc p.procs f ≡ o → Q f → (x : List ℕ) (handler : Option ℕ) (args : List PureValue) (here : Place) (s : State) → NamesCurrent (enter_found o x handler args here s)
  found-names p f None found is x handler args here s = tt
  found-names p f (Some q) found is x handler args here s = arity-names (length args == length q.params) q x handler args here s (subst Q (sym (found_name p.procs f q found)) is)

  enter-names : (p : PureParts) (v : PureValue) → ((f : List ℕ) → v ≡ procedure f → Q f) → (x : List ℕ) (handler : Option ℕ) (args : List PureValue) (here : Place) (s : State) → NamesCurrent (enter_value p v x handler args here s)
  enter-names p (procedure f) named x handler args here s = found-names p f (find_proc p.procs f) refl (named f refl) x handler args here s
  enter-names p (integer n) named x handler args here s = tt
  enter-names p (boolean b) named x handler args here s = tt
  enter-names p (text cs) named x handler args here s = tt
  enter-names p (symbol n) named x handler args here s = tt
  enter-names p (kind k) named x handler args here s = tt
  enter-names p (list vs) named x handler args here s = tt

  args-name : (p : PureParts) (v : PureValue) → ((f : List ℕ) → v ≡ procedure f → Q f) → (os : Outcomes) (x : List ℕ) (handler : Option ℕ) (here : Place) (s : State) → NamesCurrent (with_values os here s (λ args. enter_value p v x handler args here s))
  args-name p v named (Ok args) x handler here s = enter-names p v named x handler args here s
  args-name p v named (Err f) x handler here s = tt

  pub call-names : (p : PureParts) (m : Actions) (inputs : List PureValue) (x : List ℕ) (e : PureExpr) (es : List PureExpr) (handler : Option ℤ) (here : Place) (s : State) → is_literal e ≡ true
      → ((f : List ℕ) → e ≡ literal (procedure f) → Q f) → NamesCurrent (do_command p m inputs (call x e es handler) here s)
  call-names p m inputs x (literal v) es handler here s is named = args-name p v (λ f same. named f (ap literal same)) (evaluate_all es s.current.store) x (handler_label handler) here s
  call-names p m inputs x (name y) es handler here s is named = absurd (cc)
  call-names p m inputs x (logical y) es handler here s is named = absurd (cc)
  call-names p m inputs x (list_of ds) es handler here s is named = absurd (cc)
  call-names p m inputs x (unary_of op d) es handler here s is named = absurd (cc)
  call-names p m inputs x (binary_of op d e) es handler here s is named = absurd (cc)
