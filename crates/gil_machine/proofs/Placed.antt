-- A run of a valid program stands at a command until it ends.
use Rattle.std.proofs.Common.{◌≡◌, ℕ, zero, suc, ◌+◌, ◌<◌, ℤ, pos, negsuc, List, [], ◌∷◌, ◌++◌, map, Bool, true, false, cond, not, Option, Some, None, IsSome, is_some, Ok, Err, All, length, slice_get, refl, sym, ap, subst, ◌∙◌, true≢false, arith}
use Rattle.std.specs.Prelude.{◌==◌, ◌||◌, int_lt, int_le, take, unwrap_or}
use Rattle.std.specs.List.{list_any}
use Rattle.std.specs.Str.{bytes_eq}
use Rattle.std.specs.Option.{IfSome, option_map}
use Rattle.std.proofs.lemmas.Bool.{leb-false}
use Rattle.std.proofs.lemmas.Option.{slice_get-map}
use Rattle.std.proofs.lemmas.Slice.Eq.{bytes_eq-Decides}
use Rattle.std.proofs.lemmas.List.Elements.{All-nil, All-cons, All-head, All-tail}
use Rattle.gil_values.specs.declared.kinds.Kind.{Kind}
use Rattle.gil_values.specs.declared.places.Place.{Place}
use Rattle.gil_values.specs.Pure.{PureValue, integer, boolean, text, symbol, kind, procedure, list, kind_of}
use Rattle.gil_values.specs.Equality.{same_kind}
use Rattle.gil_values.specs.Operators.{Outcome}
use Rattle.gil_syntax.specs.declared.validity.InvalidKind.TheVariants.{BadLabel, NoEnd}
use Rattle.gil_syntax.specs.Pure.{PureCommand, assign, call, act, usym, isym, ifgoto, return, fail, throw, vanish, fold_use, unfold_use, assert_that, loop_invariant, PureNumberedCommand, PureProc, PureParts}
use Rattle.gil_syntax.specs.Programs.{find_proc}
use Rattle.gil_syntax.specs.Evaluation.{Outcomes, evaluate, evaluate_all}
use Rattle.gil_syntax.specs.Valid.{a_proc, a_spec, a_pred, items_of, is_bad_handler, is_bad_jump, ends_body, last_ends_body, has_fault_if_there, IsValid}
use Rattle.mem_model.specs.Pure.{PureOutcome, done, failed as action_failed, miss}
use Rattle.mem_model.specs.Actions.{Actions}
use Rattle.gil_machine.specs.State.{Frame, State, Step}
use Rattle.gil_machine.specs.Step.{command_of, command_at, to_next, to_label, assigned, with_value, with_values, handler_label, enter, enter_found, enter_value, resumed, leave, Handling, handled_or, handling, throw_to, after_action, do_action, draw, branch, do_command, step_at}
use Rattle.gil_machine.specs.Placed.{StandsAtCommand, HandlesAtCommand, IsPlaced, IsPlacedStep}
use Rattle.gil_machine.specs.Laws.{StaysPlaced, StartsPlaced}

-- ---- lists

same_some : {X : Type 0} (x y : X) → Some x ≡ Some y → x ≡ y
same_some x y e = ap (λ o. unwrap_or o x) e

not_true : (b : Bool) → ¬ (b ≡ true) → b ≡ false
not_true true h = absurd (h refl)
not_true false h = refl

neither : (a b : Bool) → (a || b) ≡ false → (a ≡ false) × (b ≡ false)
neither true b e = absurd (true≢false e)
neither false b e = (refl, e)

get-append : {X : Type 0} (xs ys : List X) (i : ℕ) (x : X) → slice_get xs i ≡ Some x → slice_get (xs ++ ys) i ≡ Some x
get-append [] ys i x is = absurd (true≢false (sym (ap is_some is)))
get-append (y ∷ xs) ys zero x is = is
get-append (y ∷ xs) ys (suc i) x is = get-append xs ys i x is

none_passes : {X : Type 0} (test : X → Bool) (xs : List X) (i : ℕ) (x : X) → list_any test xs ≡ false → slice_get xs i ≡ Some x → test x ≡ false
none_passes test [] i x none is = absurd (true≢false (sym (ap is_some is)))
none_passes test (y ∷ xs) zero x none is = subst (λ z. test z ≡ false) (same_some y x is) (neither _ _ none).0
none_passes test (y ∷ xs) (suc i) x none is = none_passes test xs i x (neither (test y) _ none).1 is

get_below : {X : Type 0} (xs : List X) (i : ℕ) → i < length xs → IsSome (slice_get xs i)
get_below [] i lt = absurd (omega (arith, lt))
get_below (x ∷ xs) zero lt = refl
get_below (x ∷ xs) (suc i) lt = get_below xs i (omega (arith, lt))

-- ---- what validity says of a procedure

pub record IsGood (q : PureProc) : Type 0 where
  pub labels : list_any (λ c. is_bad_jump (length q.body) c.command) q.body ≡ false
  pub last : last_ends_body q.body ≡ true

abbrev FoundAt : List PureProc → PureProc → Type 0
FoundAt qs q = (i : ℕ) × (slice_get qs i ≡ Some q)

found_choice : (b : Bool) (r q : PureProc) (qs : List PureProc) (o : Option PureProc) → cond b (Some r) o ≡ Some q → (o ≡ Some q → FoundAt qs q) → FoundAt (r ∷ qs) q
found_choice true r q qs o is later = (0, is)
found_choice false r q qs o is later = let at = later is in (suc at.0, at.1)

found_at : (qs : List PureProc) (f : List ℕ) (q : PureProc) → find_proc qs f ≡ Some q → FoundAt qs q
found_at [] f q is = absurd (true≢false (sym (ap is_some is)))
found_at (r ∷ qs) f q is = found_choice (bytes_eq r.name f) r q qs _ is (found_at qs f q)

named_choice : (b : Bool) (r q : PureProc) (f : List ℕ) (o : Option PureProc) → bytes_eq r.name f ≡ b → cond b (Some r) o ≡ Some q → (o ≡ Some q → q.name ≡ f) → q.name ≡ f
named_choice true r q f o e is later = ap (λ x. x.name) (sym (same_some r q is)) ∙ (bytes_eq-Decides r.name f).0 e
named_choice false r q f o e is later = later is

-- a procedure that is found has the name that was looked for
pub found_name : (qs : List PureProc) (f : List ℕ) (q : PureProc) → find_proc qs f ≡ Some q → q.name ≡ f
found_name [] f q is = absurd (true≢false (sym (ap is_some is)))
found_name (r ∷ qs) f q is = named_choice (bytes_eq r.name f) r q f _ refl is (found_name qs f q)

not_not : (b : Bool) → ¬ (not b ≡ true) → b ≡ true
not_not true h = refl
not_not false h = absurd (h refl)

good : (p : PureParts) (f : List ℕ) (q : PureProc) → IsValid p → find_proc p.procs f ≡ Some q → IsGood q
good p f q valid is =
    let at = found_at p.procs f q is in
    let here : slice_get (map a_proc p.procs) at.0 ≡ Some (a_proc q) = slice_get-map a_proc p.procs at.0 ∙ ap (option_map a_proc) at.1 in
    let item : slice_get (items_of p) at.0 ≡ Some (a_proc q) = get-append _ (map a_pred p.preds) at.0 (a_proc q) (get-append (map a_proc p.procs) (map a_spec p.specs) at.0 (a_proc q) here) in
    record {
      labels = not_true _ (λ bad. valid BadLabel at.0 (ap (has_fault_if_there BadLabel p (take at.0 (items_of p))) item ∙ bad));
      last = not_not _ (λ bad. valid NoEnd at.0 (ap (has_fault_if_there NoEnd p (take at.0 (items_of p))) item ∙ bad));
    }

-- after a command that doesn't leave comes another
after_it : (cs : List PureNumberedCommand) (i : ℕ) (c : PureNumberedCommand) → last_ends_body cs ≡ true → slice_get cs i ≡ Some c → ends_body c.command ≡ false → IsSome (slice_get cs (suc i))
after_it [] i c last is stays = absurd (true≢false (sym (ap is_some is)))
after_it (d ∷ []) zero c last is stays = absurd (true≢false (sym last ∙ ap (λ e. ends_body e.command) (same_some d c is) ∙ stays))
after_it (d ∷ []) (suc i) c last is stays = absurd (true≢false (sym (ap is_some is)))
after_it (d ∷ e ∷ cs) zero c last is stays = refl
after_it (d ∷ e ∷ cs) (suc i) c last is stays = after_it (e ∷ cs) i c last is stays

first_there : (cs : List PureNumberedCommand) → last_ends_body cs ≡ true → IsSome (slice_get cs 0)
first_there [] last = absurd (true≢false (sym last))
first_there (c ∷ cs) last = refl

-- ---- frames

command_found : (o : Option PureProc) (i : ℕ) (c : PureNumberedCommand) → command_of o i ≡ Some c → (q : PureProc) × ((o ≡ Some q) × (slice_get q.body i ≡ Some c))
command_found None i c is = absurd (true≢false (sym (ap is_some is)))
command_found (Some q) i c is = (q, (refl, is))

module _ (p : PureParts) (valid : IsValid p) where
  next_placed : (frame : Frame) (c : PureNumberedCommand) → command_at p frame ≡ Some c → ends_body c.command ≡ false → IsSome (command_of (find_proc p.procs frame.procedure) (frame.next + 1))
  next_placed frame c is stays =
      let at = command_found (find_proc p.procs frame.procedure) frame.next c is in
      let next : suc frame.next ≡ frame.next + 1 = omega arith in
      let there : IsSome (slice_get at.0.body (suc frame.next)) = after_it at.0.body frame.next c (good p frame.procedure at.0 valid at.1.0).last at.1.1 stays in
      subst (λ o. IsSome (command_of o (frame.next + 1))) (sym at.1.0) (subst (λ i. IsSome (slice_get at.0.body i)) next there)

  -- a label of a command that stands in the body is in the body
  in_body : (n : ℕ) (t : ℤ) (i : ℕ) → t ≡ pos i → (int_lt t (pos 0) || int_le (pos n) t) ≡ false → i < n
  in_body n t i e fine = leb-false n i (ap (int_le (pos n)) (sym e) ∙ (neither _ _ fine).1)

  in_handler : (n : ℕ) (o : Option ℤ) (i : ℕ) → handler_label o ≡ Some i → is_bad_handler n o ≡ false → i < n
  in_handler n (Some (pos j)) i e fine = in_body n (pos j) i (ap pos (same_some j i e)) fine
  in_handler n (Some (negsuc j)) i e fine = absurd (cc)
  in_handler n None i e fine = absurd (cc)

  -- a command leads to this index, by its jump or by its handler
  abbrev MayLeadTo : PureCommand → ℕ → Type 0
  MayLeadTo (ifgoto e t) i = t ≡ pos i
  MayLeadTo (call x e es handler) i = handler_label handler ≡ Some i
  MayLeadTo _ i = ⊥

  leads_in : (n : ℕ) (c : PureCommand) (i : ℕ) → MayLeadTo c i → is_bad_jump n c ≡ false → i < n
  leads_in n (ifgoto e t) i is fine = in_body n t i is fine
  leads_in n (call x e es handler) i is fine = in_handler n handler i is fine
  leads_in n (assign x e) i is fine = absurd is
  leads_in n (act x a es) i is fine = absurd is
  leads_in n (usym x) i is fine = absurd is
  leads_in n (isym x k) i is fine = absurd is
  leads_in n (return e) i is fine = absurd is
  leads_in n (fail e) i is fine = absurd is
  leads_in n (throw e) i is fine = absurd is
  leads_in n vanish i is fine = absurd is
  leads_in n (fold_use u) i is fine = absurd is
  leads_in n (unfold_use u) i is fine = absurd is
  leads_in n (assert_that items) i is fine = absurd is
  leads_in n (loop_invariant xs ps items) i is fine = absurd is

  label_placed : (frame : Frame) (c : PureNumberedCommand) (i : ℕ) → command_at p frame ≡ Some c → MayLeadTo c.command i → IsSome (command_of (find_proc p.procs frame.procedure) i)
  label_placed frame c i is leads =
      let at = command_found (find_proc p.procs frame.procedure) frame.next c is in
      let fine : is_bad_jump (length at.0.body) c.command ≡ false = none_passes _ at.0.body frame.next c (good p frame.procedure at.0 valid at.1.0).labels at.1.1 in
      subst (λ o. IsSome (command_of o i)) (sym at.1.0) (get_below at.0.body i (leads_in (length at.0.body) c.command i leads fine))

  first_placed : (f : List ℕ) (q : PureProc) → find_proc p.procs f ≡ Some q → IsSome (command_of (find_proc p.procs f) 0)
  first_placed f q is = subst (λ o. IsSome (command_of o 0)) (sym is) (first_there q.body (good p f q valid is).last)

  -- ---- steps

  abbrev NextThere : Frame → Type 0
  NextThere frame = IsSome (command_of (find_proc p.procs frame.procedure) (frame.next + 1))

  to_next_placed : (s : State) → NextThere s.current → IsPlaced p s → IsPlacedStep p (to_next s)
  to_next_placed s next h = record { current = next; callers = h.callers; handlers = h.handlers }

  assigned_placed : (x : List ℕ) (v : PureValue) (s : State) → NextThere s.current → IsPlaced p s → IsPlacedStep p (assigned x v s)
  assigned_placed x v s next h = record { current = next; callers = h.callers; handlers = h.handlers }

  with_value_placed : (r : Outcome) (here : Place) (s : State) (go_on : PureValue → Step) → ((v : PureValue) → IsPlacedStep p (go_on v)) → IsPlacedStep p (with_value r here s go_on)
  with_value_placed (Ok v) here s go_on k = k v
  with_value_placed (Err f) here s go_on k = tt

  with_values_placed : (r : Outcomes) (here : Place) (s : State) (go_on : List PureValue → Step) → ((vs : List PureValue) → IsPlacedStep p (go_on vs)) → IsPlacedStep p (with_values r here s go_on)
  with_values_placed (Ok vs) here s go_on k = k vs
  with_values_placed (Err f) here s go_on k = tt

  choice_placed : (b : Bool) (r t : Step) → IsPlacedStep p r → IsPlacedStep p t → IsPlacedStep p (cond b r t)
  choice_placed true r t h k = h
  choice_placed false r t h k = k

  -- the handler of a call that the frame makes stands in its body
  abbrev HandlerThere : Option ℕ → Frame → Type 0
  HandlerThere handler frame = IfSome handler (λ i. IsSome (command_of (find_proc p.procs frame.procedure) i))

  handler_there : (o : Option ℕ) (frame : Frame) → ((i : ℕ) → o ≡ Some i → IsSome (command_of (find_proc p.procs frame.procedure) i)) → HandlerThere o frame
  handler_there (Some i) frame there = there i refl
  handler_there None frame there = tt

  enter_placed : (f : List ℕ) (q : PureProc) (x : List ℕ) (handler : Option ℕ) (args : List PureValue) (s : State) → find_proc p.procs f ≡ Some q → NextThere s.current → HandlerThere handler s.current → IsPlaced p s → IsPlacedStep p (enter q x handler args s)
  enter_placed f q x handler args s is next there h = record {
    current = subst (λ g. IsSome (command_of (find_proc p.procs g) 0)) (sym (found_name p.procs f q is)) (first_placed f q is);
    callers = All-cons (StandsAtCommand p) _ s.callers next h.callers;
    handlers = All-cons (HandlesAtCommand p) _ s.callers there h.handlers;
  }

  enter_found_placed : (f : List ℕ) (o : Option PureProc) (x : List ℕ) (handler : Option ℕ) (args : List PureValue) (here : Place) (s : State) → find_proc p.procs f ≡ o → NextThere s.current → HandlerThere handler s.current → IsPlaced p s → IsPlacedStep p (enter_found o x handler args here s)
  enter_found_placed f None x handler args here s is next there h = tt
  enter_found_placed f (Some q) x handler args here s is next there h = choice_placed (length args == length q.params) _ _ (enter_placed f q x handler args s is next there h) tt

  enter_value_placed : (v : PureValue) (x : List ℕ) (handler : Option ℕ) (args : List PureValue) (here : Place) (s : State) → NextThere s.current → HandlerThere handler s.current → IsPlaced p s → IsPlacedStep p (enter_value p v x handler args here s)
  enter_value_placed (procedure f) x handler args here s next there h = enter_found_placed f (find_proc p.procs f) x handler args here s refl next there h
  enter_value_placed (integer n) x handler args here s next there h = tt
  enter_value_placed (boolean b) x handler args here s next there h = tt
  enter_value_placed (text cs) x handler args here s next there h = tt
  enter_value_placed (symbol n) x handler args here s next there h = tt
  enter_value_placed (kind k) x handler args here s next there h = tt
  enter_value_placed (list vs) x handler args here s next there h = tt

  resumed_placed : (w : Option (List ℕ)) (v : PureValue) (frame : Frame) → StandsAtCommand p frame → StandsAtCommand p (resumed w v frame)
  resumed_placed (Some x) v frame h = h
  resumed_placed None v frame h = h

  leave_placed : (callers : List Frame) (v : PureValue) (s : State) → All (StandsAtCommand p) callers → All (HandlesAtCommand p) callers → IsPlacedStep p (leave callers v s)
  leave_placed [] v s h k = tt
  leave_placed (caller ∷ callers) v s h k = record {
    current = resumed_placed caller.waits v caller (All-head (StandsAtCommand p) caller callers h);
    callers = All-tail (StandsAtCommand p) caller callers h;
    handlers = All-tail (HandlesAtCommand p) caller callers k;
  }

  -- the frame that takes a throw has a command at its handler
  pub record IsHandlingPlaced (taken : Handling) : Type 0 where
    pub label : IsSome (command_of (find_proc p.procs taken.frame.procedure) taken.label)
    pub callers : All (StandsAtCommand p) taken.callers
    pub handlers : All (HandlesAtCommand p) taken.callers

  handled_or_placed : (o : Option ℕ) (caller : Frame) (callers : List Frame) (below : Option Handling) → caller.handler ≡ o → HandlesAtCommand p caller
      → All (StandsAtCommand p) callers → All (HandlesAtCommand p) callers → IfSome below IsHandlingPlaced → IfSome (handled_or o caller callers below) IsHandlingPlaced
  handled_or_placed (Some i) caller callers below is handles h k rest = record { label = subst (λ o. HandlerThere o caller) is handles; callers = h; handlers = k }
  handled_or_placed None caller callers below is handles h k rest = rest

  handling_placed : (callers : List Frame) → All (StandsAtCommand p) callers → All (HandlesAtCommand p) callers → IfSome (handling callers) IsHandlingPlaced
  handling_placed [] h k = tt
  handling_placed (caller ∷ callers) h k =
      let rest = All-tail (StandsAtCommand p) caller callers h in
      let handlers = All-tail (HandlesAtCommand p) caller callers k in
      handled_or_placed caller.handler caller callers (handling callers) refl (All-head (HandlesAtCommand p) caller callers k) rest handlers (handling_placed callers rest handlers)

  resumed_at_placed : (w : Option (List ℕ)) (i : ℕ) (v : PureValue) (frame : Frame) → IsSome (command_of (find_proc p.procs frame.procedure) i) → StandsAtCommand p (record (resumed w v frame) { next = i })
  resumed_at_placed (Some x) i v frame h = h
  resumed_at_placed None i v frame h = h

  throw_placed : (o : Option Handling) (v : PureValue) (here : Place) (s : State) → IfSome o IsHandlingPlaced → IsPlacedStep p (throw_to o v here s)
  throw_placed None v here s h = tt
  throw_placed (Some taken) v here s h = record {
    current = resumed_at_placed taken.frame.waits taken.label v taken.frame h.label;
    callers = h.callers;
    handlers = h.handlers;
  }

  after_action_placed : (o : PureOutcome) (x : List ℕ) (here : Place) (s : State) → NextThere s.current → IsPlaced p s → IsPlacedStep p (after_action o x here s)
  after_action_placed (done v) x here s next h = assigned_placed x v s next h
  after_action_placed (action_failed v) x here s next h = tt
  after_action_placed (miss k) x here s next h = tt

  do_action_placed : (b : Bool) (m : Actions) (x a : List ℕ) (args : List PureValue) (here : Place) (s : State) → NextThere s.current → IsPlaced p s → IsPlacedStep p (do_action b m x a args here s)
  do_action_placed true m x a args here s next h = after_action_placed _ x here _ next (record { current = h.current; callers = h.callers; handlers = h.handlers })
  do_action_placed false m x a args here s next h = after_action_placed _ x here _ next (record { current = h.current; callers = h.callers; handlers = h.handlers })

  draw_placed : (o : Option PureValue) (x : List ℕ) (k : Kind) (s : State) → NextThere s.current → IsPlaced p s → IsPlacedStep p (draw o x k s)
  draw_placed None x k s next h = tt
  draw_placed (Some v) x k s next h = choice_placed (same_kind (kind_of v) k) _ _ (assigned_placed x v s next h) tt

  to_label_placed : (t : ℤ) (s : State) → ((i : ℕ) → t ≡ pos i → IsSome (command_of (find_proc p.procs s.current.procedure) i)) → IsPlaced p s → IsPlacedStep p (to_label t s)
  to_label_placed (pos i) s there h = record { current = there i refl; callers = h.callers; handlers = h.handlers }
  to_label_placed (negsuc i) s there h = h

  branch_placed : (v : PureValue) (t : ℤ) (here : Place) (s : State) → ((i : ℕ) → t ≡ pos i → IsSome (command_of (find_proc p.procs s.current.procedure) i)) → NextThere s.current → IsPlaced p s → IsPlacedStep p (branch v t here s)
  branch_placed (boolean true) t here s there next h = to_label_placed t s there h
  branch_placed (boolean false) t here s there next h = to_next_placed s next h
  branch_placed (integer n) t here s there next h = tt
  branch_placed (text cs) t here s there next h = tt
  branch_placed (symbol n) t here s there next h = tt
  branch_placed (kind k) t here s there next h = tt
  branch_placed (procedure f) t here s there next h = tt
  branch_placed (list vs) t here s there next h = tt

  module _ (m : Actions) (inputs : List PureValue) where
    -- a command that goes on, where the frame has a next command, and its labels stand in the body
    do_command_placed : (c : PureCommand) (here : Place) (s : State)
        → (ends_body c ≡ false → NextThere s.current)
        → ((i : ℕ) → MayLeadTo c i → IsSome (command_of (find_proc p.procs s.current.procedure) i))
        → IsPlaced p s → IsPlacedStep p (do_command p m inputs c here s)
    do_command_placed (assign x e) here s next there h = with_value_placed (evaluate e s.current.store) here s _ (λ v. assigned_placed x v s (next refl) h)
    do_command_placed (call x e es handler) here s next there h = with_value_placed (evaluate e s.current.store) here s _ (λ f. with_values_placed (evaluate_all es s.current.store) here s _ (λ args. enter_value_placed f x (handler_label handler) args here s (next refl) (handler_there (handler_label handler) s.current there) h))
    do_command_placed (act x a es) here s next there h = with_values_placed (evaluate_all es s.current.store) here s _ (λ args. do_action_placed (m.takes_symbol a) m x a args here s (next refl) h)
    do_command_placed (usym x) here s next there h = assigned_placed x _ _ (next refl) (record { current = h.current; callers = h.callers; handlers = h.handlers })
    do_command_placed (isym x k) here s next there h = draw_placed (slice_get inputs s.draws) x k _ (next refl) (record { current = h.current; callers = h.callers; handlers = h.handlers })
    do_command_placed (ifgoto e t) here s next there h = with_value_placed (evaluate e s.current.store) here s _ (λ v. branch_placed v t here s there (next refl) h)
    do_command_placed (return e) here s next there h = with_value_placed (evaluate e s.current.store) here s _ (λ v. leave_placed s.callers v s h.callers h.handlers)
    do_command_placed (fail e) here s next there h = with_value_placed (evaluate e s.current.store) here s _ (λ v. tt)
    do_command_placed (throw e) here s next there h = with_value_placed (evaluate e s.current.store) here s _ (λ v. throw_placed (handling s.callers) v here s (handling_placed s.callers h.callers h.handlers))
    do_command_placed vanish here s next there h = tt
    do_command_placed (fold_use u) here s next there h = to_next_placed s (next refl) h
    do_command_placed (unfold_use u) here s next there h = to_next_placed s (next refl) h
    do_command_placed (assert_that items) here s next there h = to_next_placed s (next refl) h
    do_command_placed (loop_invariant xs ps items) here s next there h = to_next_placed s (next refl) h

    step_at_placed : (o : Option PureNumberedCommand) (s : State) → command_at p s.current ≡ o → IsPlaced p s → IsPlacedStep p (step_at p m inputs o s)
    step_at_placed (Some c) s is h = do_command_placed c.command _ s (next_placed s.current c is) (λ i leads. label_placed s.current c i is leads) h
    step_at_placed None s is h = h

pub stays_placed : StaysPlaced
stays_placed p m inputs s valid h = step_at_placed p valid m inputs (command_at p s.current) s refl h

pub starts_placed : StartsPlaced
starts_placed p f q args h counter valid is = record { current = first_placed p valid f q is; callers = All-nil (StandsAtCommand p); handlers = All-nil (HandlesAtCommand p) }
