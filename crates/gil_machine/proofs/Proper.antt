-- Proper states go on to proper states.
use Rattle.std.proofs.Common.{◌≡◌, ◌⊎◌, ⊎_elim, ℕ, zero, suc, ◌+◌, ◌<◌, ◌≤◌, ℤ, pos, negsuc, List, [], ◌∷◌, Bool, true, false, cond, Option, Some, None, Ok, Err, All, length, slice_get, refl, sym, ap, subst, ◌∙◌, true≢false, inl, inr, arith}
use Rattle.std.specs.Prelude.{◌==◌, is_some, unwrap_or}
use Rattle.std.specs.Cmp.{first_so, second_so}
use Rattle.std.specs.List.{Contains, list_all}
use Rattle.std.specs.Option.{IfSome}
use Rattle.std.specs.Str.{bytes_eq}
use Rattle.std.proofs.lemmas.List.Elements.{All-nil, All-cons, All-head, All-tail, All-weaker, Contains-push_cases}
use Rattle.gil_values.specs.declared.kinds.Kind.{Kind}
use Rattle.gil_values.specs.declared.kinds.Kind.TheVariants.{Int, Bool as Boolean, Str, Sym, Kind as OfKinds, Proc, List as OfLists, Undef, Null}
use Rattle.gil_values.specs.declared.places.Place.{Place}
use Rattle.gil_values.specs.Pure.{PureValue, integer, boolean, text, symbol, kind, procedure, list, kind_of}
use Rattle.gil_values.specs.Equality.{same_kind}
use Rattle.gil_values.specs.Symbols.{OccursAmong, IsBelow, AreBelow}
use Rattle.gil_values.specs.Operators.{Outcome}
use Rattle.gil_syntax.specs.Pure.{PureExpr, PureCommand, assign, call, act, usym, isym, ifgoto, return, fail, throw, vanish, fold_use, unfold_use, assert_that, loop_invariant, PureNumberedCommand, PureProc, PureParts}
use Rattle.gil_syntax.specs.Programs.{find_proc}
use Rattle.gil_syntax.specs.Subexpressions.{exprs_of}
use Rattle.gil_syntax.specs.Evaluation.{Store, bind, value_of, Outcomes, evaluate, evaluate_all}
use Rattle.gil_syntax.specs.WellMade.{is_well_made, is_program_name, is_drawable, is_well_made_expr, has_well_made_names, is_well_made_command, is_well_made_proc, is_well_made_pred}
use Rattle.gil_syntax.proofs.Symbols.{HoldsOfAll, HoldsIfValue, HoldsIfValues, none_contained, each-nil, evaluate-holds, evaluate_all-holds, each_of_all, all_of_each}
use Rattle.mem_model.specs.declared.keys.MemoryName.{MemoryName}
use Rattle.mem_model.specs.Heaps.{Heap, IsHeapBelow, OccursInHeap}
use Rattle.mem_model.specs.Pure.{PureOutcome, done, failed as action_failed, miss}
use Rattle.mem_model.specs.Actions.{Actions, MayAct, OccursInOutcome, IsMemory}
use Rattle.gil_machine.specs.State.{Frame, State, Ending, End, Step, goes_on, ends, end_at, returned, threw, failed, vanished, no_input, bad_input, cut, told}
use Rattle.gil_machine.specs.Step.{command_of, command_at, bind_all, to_next, to_label, assigned, fails_with, with_value, with_values, handler_label, enter, enter_found, enter_value, resumed, leave, Handling, handled_or, handling, caught, throw_to, after_action, acted, do_action, new_symbol, draw, branch, do_command, step_at, step}
use Rattle.gil_machine.specs.Run.{after, run}
use Rattle.gil_machine.specs.Proper.{IsStoreBelow, IsFrameBelow, IsProperState, IsEndingBelow, IsProperEnd, IsProperStep}
use Rattle.gil_machine.specs.Laws.{StaysProper, StartsProper, EndsProper, EndsProperAsTold, CounterIsNew, MayActWhereReached, handed}

abbrev pub Below : ℕ → ℕ → Type 0
Below counter n = n < counter

-- ---- stores

same_some : {X : Type 0} (x y : X) → Some x ≡ Some y → x ≡ y
same_some x y e = ap (λ o. unwrap_or o x) e

chosen_below : (c : ℕ) (b : Bool) (v : PureValue) (o : Option PureValue) → IsBelow c v → ((w : PureValue) → o ≡ Some w → IsBelow c w) → (w : PureValue) → cond b (Some v) o ≡ Some w → IsBelow c w
chosen_below c true v o h k w is = subst (IsBelow c) (same_some v w is) h
chosen_below c false v o h k w is = k w is

bind_below : (c : ℕ) (x : List ℕ) (v : PureValue) (s : Store) → IsBelow c v → IsStoreBelow c s → IsStoreBelow c (bind x v s)
bind_below c x v s h k y w is = chosen_below c (bytes_eq x y) v (value_of s y) h (k y) w is

no_store_below : (c : ℕ) → IsStoreBelow c []
no_store_below c x v is = absurd (true≢false (sym (ap is_some is)))

bind_all_below : (c : ℕ) (xs : List (List ℕ)) (vs : List PureValue) → HoldsOfAll (Below c) vs → IsStoreBelow c (bind_all xs vs)
bind_all_below c [] vs h = no_store_below c
bind_all_below c (x ∷ xs) [] h = no_store_below c
bind_all_below c (x ∷ xs) (v ∷ vs) h = bind_below c x v (bind_all xs vs) h.0 (bind_all_below c xs vs h.1)

resumed_below : (c : ℕ) (w : Option (List ℕ)) (v : PureValue) (frame : Frame) → IsBelow c v → IsFrameBelow c frame → IsFrameBelow c (resumed w v frame)
resumed_below c (Some x) v frame h k = bind_below c x v frame.store h k
resumed_below c None v frame h k = k

-- the frame that takes a throw and those below it
abbrev AreHandledBelow : ℕ → Option Handling → Type 0
AreHandledBelow c o = IfSome o (λ h. IsFrameBelow c h.frame × All (IsFrameBelow c) h.callers)

handled_or_below : (c : ℕ) (o : Option ℕ) (frame : Frame) (callers : List Frame) (below : Option Handling) → IsFrameBelow c frame → All (IsFrameBelow c) callers
    → AreHandledBelow c below → AreHandledBelow c (handled_or o frame callers below)
handled_or_below c (Some i) frame callers below h k rest = (h, k)
handled_or_below c None frame callers below h k rest = rest

handled_below : (c : ℕ) (callers : List Frame) → All (IsFrameBelow c) callers → AreHandledBelow c (handling callers)
handled_below c [] h = tt
handled_below c (caller ∷ callers) h =
    let rest = All-tail (IsFrameBelow c) caller callers h in
    handled_or_below c caller.handler caller callers (handling callers) (All-head (IsFrameBelow c) caller callers h) rest (handled_below c callers rest)

caught_below : (c i : ℕ) (v : PureValue) (frame : Frame) → IsBelow c v → IsFrameBelow c frame → IsFrameBelow c (caught i v frame)
caught_below c i v frame h k = resumed_below c frame.waits v frame h k

frame_wider : (c d : ℕ) → c ≤ d → (frame : Frame) → IsFrameBelow c frame → IsFrameBelow d frame
frame_wider c d le frame h x v is n occurs = let lt = h x v is n occurs in omega (arith, lt, le)

-- ---- values without symbols

drawn_symbol : (k : Kind) → same_kind Sym k ≡ true → is_drawable k ≡ true → ⊥
drawn_symbol Int e d = true≢false (sym e)
drawn_symbol Boolean e d = true≢false (sym e)
drawn_symbol Str e d = true≢false (sym e)
drawn_symbol Sym e d = true≢false (sym d)
drawn_symbol OfKinds e d = true≢false (sym e)
drawn_symbol Proc e d = true≢false (sym e)
drawn_symbol OfLists e d = true≢false (sym e)
drawn_symbol Undef e d = true≢false (sym e)
drawn_symbol Null e d = true≢false (sym e)

drawn_list : (k : Kind) → same_kind OfLists k ≡ true → is_drawable k ≡ true → ⊥
drawn_list Int e d = true≢false (sym e)
drawn_list Boolean e d = true≢false (sym e)
drawn_list Str e d = true≢false (sym e)
drawn_list Sym e d = true≢false (sym e)
drawn_list OfKinds e d = true≢false (sym e)
drawn_list Proc e d = true≢false (sym e)
drawn_list OfLists e d = true≢false (sym d)
drawn_list Undef e d = true≢false (sym e)
drawn_list Null e d = true≢false (sym e)

drawn_below : (c : ℕ) (v : PureValue) (k : Kind) → same_kind (kind_of v) k ≡ true → is_drawable k ≡ true → IsBelow c v
drawn_below c (symbol n) k e d = absurd (drawn_symbol k e d)
drawn_below c (list vs) k e d = absurd (drawn_list k e d)
drawn_below c (integer n) k e d = each-nil (Below c)
drawn_below c (boolean b) k e d = each-nil (Below c)
drawn_below c (text cs) k e d = each-nil (Below c)
drawn_below c (kind l) k e d = each-nil (Below c)
drawn_below c (procedure f) k e d = each-nil (Below c)

single_below : (c n : ℕ) → Contains (c ∷ []) n → n < c + 1
single_below c n is = ⊎_elim (λ none. absurd (none_contained n none)) (λ same. omega (arith, same)) (Contains-push_cases [] c n is)

in_heap_below : (c : ℕ) (h : Heap) (n : ℕ) → IsHeapBelow c h → OccursInHeap n h → n < c
in_heap_below c h n below (k, (v, (holds, inl at))) = subst (Below c) at (below k v holds).0
in_heap_below c h n below (k, (v, (holds, inr within))) = (below k v holds).1 n within

no_some : (n : ℕ) → ¬ (None ≡ Some n)
no_some n is = true≢false (sym (ap is_some is))

-- a symbol that was there, or that is the new one, is below d
old_or_new : (c d : ℕ) (fresh : Option ℕ) (args : List PureValue) (h : Heap) (n : ℕ) → AreBelow c args → IsHeapBelow c h → c ≤ d → (fresh ≡ Some n → n < d) → (fresh ≡ Some n) ⊎ (OccursAmong n args ⊎ OccursInHeap n h) → n < d
old_or_new c d fresh args h n below heap_below le new (inl is) = new is
old_or_new c d fresh args h n below heap_below le new (inr (inl occurs)) = let lt = below n occurs in omega (arith, lt, le)
old_or_new c d fresh args h n below heap_below le new (inr (inr occurs)) = let lt = in_heap_below c h n heap_below occurs in omega (arith, lt, le)

-- ---- commands of well-made programs

abbrev MadeProc : Option PureProc → Type 0
MadeProc (Some q) = is_well_made_proc q ≡ true
MadeProc None = Unit {0}

abbrev pub MadeCommand : Option PureNumberedCommand → Type 0
MadeCommand (Some c) = is_well_made_command c.command ≡ true
MadeCommand None = Unit {0}

made_choice : (b : Bool) (q : PureProc) (o : Option PureProc) → is_well_made_proc q ≡ true → MadeProc o → MadeProc (cond b (Some q) o)
made_choice true q o h k = h
made_choice false q o h k = k

pub find_made : (qs : List PureProc) (f : List ℕ) → list_all is_well_made_proc qs ≡ true → MadeProc (find_proc qs f)
find_made [] f made = tt
find_made (q ∷ qs) f made = made_choice (bytes_eq q.name f) q _ (first_so _ _ made) (find_made qs f (second_so (is_well_made_proc q) _ made))

get_made : (cs : List PureNumberedCommand) (i : ℕ) → list_all (λ c. is_well_made_command c.command) cs ≡ true → MadeCommand (slice_get cs i)
get_made [] i made = tt
get_made (c ∷ cs) zero made = first_so _ _ made
get_made (c ∷ cs) (suc i) made = get_made cs i (second_so (is_well_made_command c.command) _ made)

pub command_made : (q : Option PureProc) (i : ℕ) → MadeProc q → MadeCommand (command_of q i)
command_made None i made = tt
command_made (Some q) i made = get_made q.body i (second_so (list_all is_program_name q.params) _ made)

-- ---- steps

module _ (memory : MemoryName) where
  end_proper : (s : State) (ending : Ending) → IsProperState memory s → IsEndingBelow s.counter ending → IsProperEnd memory (end_at s ending)
  end_proper s ending h k = record { heap = h.heap; heap_below = h.heap_below; ending_below = k }

  fails_proper : (v : PureValue) (here : Place) (s : State) → IsProperState memory s → IsBelow s.counter v → IsProperStep memory (fails_with v here s)
  fails_proper v here s h k = end_proper s (failed v here) h k

  text_proper : (cs : List ℕ) (here : Place) (s : State) → IsProperState memory s → IsProperStep memory (fails_with (text cs) here s)
  text_proper cs here s h = fails_proper (text cs) here s h (each-nil (Below s.counter))

  choice_proper : (b : Bool) (r t : Step) → IsProperStep memory r → IsProperStep memory t → IsProperStep memory (cond b r t)
  choice_proper true r t h k = h
  choice_proper false r t h k = k

  next_proper : (s : State) → IsProperState memory s → IsProperStep memory (to_next s)
  next_proper s h = record { heap = h.heap; heap_below = h.heap_below; current_below = h.current_below; callers_below = h.callers_below }

  label_proper : (i : ℤ) (s : State) → IsProperState memory s → IsProperStep memory (to_label i s)
  label_proper (pos i) s h = record { heap = h.heap; heap_below = h.heap_below; current_below = h.current_below; callers_below = h.callers_below }
  label_proper (negsuc i) s h = h

  assigned_proper : (x : List ℕ) (v : PureValue) (s : State) → IsProperState memory s → IsBelow s.counter v → IsProperStep memory (assigned x v s)
  assigned_proper x v s h k = record { heap = h.heap; heap_below = h.heap_below; current_below = bind_below s.counter x v s.current.store k h.current_below; callers_below = h.callers_below }

  with_value_proper : (r : Outcome) (here : Place) (s : State) (go_on : PureValue → Step) → IsProperState memory s → HoldsIfValue (Below s.counter) r → ((v : PureValue) → IsBelow s.counter v → IsProperStep memory (go_on v)) → IsProperStep memory (with_value r here s go_on)
  with_value_proper (Ok v) here s go_on h k l = l v k
  with_value_proper (Err f) here s go_on h k l = text_proper _ here s h

  with_values_proper : (r : Outcomes) (here : Place) (s : State) (go_on : List PureValue → Step) → IsProperState memory s → HoldsIfValues (Below s.counter) r → ((vs : List PureValue) → HoldsOfAll (Below s.counter) vs → IsProperStep memory (go_on vs)) → IsProperStep memory (with_values r here s go_on)
  with_values_proper (Ok vs) here s go_on h k l = l vs k
  with_values_proper (Err f) here s go_on h k l = text_proper _ here s h

  enter_proper : (q : PureProc) (x : List ℕ) (handler : Option ℕ) (args : List PureValue) (s : State) → IsProperState memory s → HoldsOfAll (Below s.counter) args → IsProperStep memory (enter q x handler args s)
  enter_proper q x handler args s h k = record {
    heap = h.heap;
    heap_below = h.heap_below;
    current_below = bind_all_below s.counter q.params args k;
    callers_below = All-cons (IsFrameBelow s.counter) _ s.callers h.current_below h.callers_below;
  }

  enter_found_proper : (q : Option PureProc) (x : List ℕ) (handler : Option ℕ) (args : List PureValue) (here : Place) (s : State) → IsProperState memory s → HoldsOfAll (Below s.counter) args → IsProperStep memory (enter_found q x handler args here s)
  enter_found_proper None x handler args here s h k = text_proper _ here s h
  enter_found_proper (Some q) x handler args here s h k = choice_proper (length args == length q.params) _ _ (enter_proper q x handler args s h k) (text_proper _ here s h)

  enter_value_proper : (p : PureParts) (v : PureValue) (x : List ℕ) (handler : Option ℕ) (args : List PureValue) (here : Place) (s : State) → IsProperState memory s → HoldsOfAll (Below s.counter) args → IsProperStep memory (enter_value p v x handler args here s)
  enter_value_proper p (procedure f) x handler args here s h k = enter_found_proper (find_proc p.procs f) x handler args here s h k
  enter_value_proper p (integer n) x handler args here s h k = text_proper _ here s h
  enter_value_proper p (boolean b) x handler args here s h k = text_proper _ here s h
  enter_value_proper p (text cs) x handler args here s h k = text_proper _ here s h
  enter_value_proper p (symbol n) x handler args here s h k = text_proper _ here s h
  enter_value_proper p (kind l) x handler args here s h k = text_proper _ here s h
  enter_value_proper p (list vs) x handler args here s h k = text_proper _ here s h

  leave_proper : (callers : List Frame) (v : PureValue) (s : State) → IsProperState memory s → All (IsFrameBelow s.counter) callers → IsBelow s.counter v → IsProperStep memory (leave callers v s)
  leave_proper [] v s h below k = end_proper s (returned v) h k
  leave_proper (caller ∷ callers) v s h below k = record {
    heap = h.heap;
    heap_below = h.heap_below;
    current_below = resumed_below s.counter caller.waits v caller k (All-head (IsFrameBelow s.counter) caller callers below);
    callers_below = All-tail (IsFrameBelow s.counter) caller callers below;
  }

  throw_proper : (o : Option Handling) (v : PureValue) (here : Place) (s : State) → IsProperState memory s → AreHandledBelow s.counter o → IsBelow s.counter v → IsProperStep memory (throw_to o v here s)
  throw_proper None v here s h below k = end_proper s (threw v here) h k
  throw_proper (Some taken) v here s h below k = record {
    heap = h.heap;
    heap_below = h.heap_below;
    current_below = caught_below s.counter taken.label v taken.frame k below.0;
    callers_below = below.1;
  }

  -- the state with a counter that is not lower
  raised : (s : State) (d : ℕ) → s.counter ≤ d → IsProperState memory s → IsProperState memory (record s { counter = d })
  raised s d le h = record {
    heap = h.heap;
    heap_below = λ k v holds. (
      (let lt = (h.heap_below k v holds).0 in omega (arith, lt, le)),
      (λ n occurs. let lt = (h.heap_below k v holds).1 n occurs in omega (arith, lt, le)),
    );
    current_below = frame_wider s.counter d le s.current h.current_below;
    callers_below = All-weaker (IsFrameBelow s.counter) (IsFrameBelow d) (frame_wider s.counter d le) s.callers h.callers_below;
  }

  new_symbol_proper : (x : List ℕ) (s : State) → IsProperState memory s → IsProperStep memory (new_symbol x s)
  new_symbol_proper x s h = assigned_proper x (symbol s.counter) _ (raised s (s.counter + 1) (omega arith) h) (single_below s.counter)

  after_action_proper : (o : PureOutcome) (x : List ℕ) (here : Place) (s : State) → IsProperState memory s → ((n : ℕ) → OccursInOutcome n o → n < s.counter) → IsProperStep memory (after_action o x here s)
  after_action_proper (done v) x here s h k = assigned_proper x v s h k
  after_action_proper (action_failed v) x here s h k = fails_proper v here s h k
  after_action_proper (miss key) x here s h k = text_proper _ here s h

  -- an action may be asked with the counter's symbol, where it takes one
  may_act : (m : Actions) (b : Bool) (a : List ℕ) (args : List PureValue) (s : State) → m.takes_symbol a ≡ b → IsProperState memory s → AreBelow s.counter args → MayAct m a (handed b s) args s.heap
  may_act m true a args s e h below = record {
    symbol_where_taken = (λ _. e, λ _. refl);
    new_in_heap = λ n is occurs. let same = same_some s.counter n is in let lt = in_heap_below s.counter s.heap n h.heap_below occurs in omega (arith, same, lt);
    new_in_arguments = λ n is occurs. let same = same_some s.counter n is in let lt = below n occurs in omega (arith, same, lt);
  }
  may_act m false a args s e h below = record {
    symbol_where_taken = (λ is. absurd (true≢false (sym is)), λ is. absurd (true≢false (sym is ∙ e)));
    new_in_heap = λ n is. absurd (no_some n is);
    new_in_arguments = λ n is. absurd (no_some n is);
  }

  module _ (m : Actions) (laws : IsMemory memory m) where
    acted_proper : (x a : List ℕ) (fresh : Option ℕ) (args : List PureValue) (here : Place) (s : State) (d : ℕ)
        → IsProperState memory s → AreBelow s.counter args → s.counter ≤ d → ((n : ℕ) → fresh ≡ Some n → n < d)
        → MayAct m a fresh args s.heap
        → IsProperStep memory (acted (m.act a fresh args s.heap) x here (record s { counter = d }))
    acted_proper x a fresh args here s d h below le new may =
        let old : (n : ℕ) → OccursInOutcome n (m.act a fresh args s.heap).outcome ⊎ OccursInHeap n (m.act a fresh args s.heap).heap → n < d
        = λ n occurs. old_or_new s.counter d fresh args s.heap n below h.heap_below le (new n) (laws.no_invention a fresh args s.heap h.heap may n occurs) in
        after_action_proper (m.act a fresh args s.heap).outcome x here _
        (record {
          heap = laws.keeps_heaps a fresh args s.heap h.heap may;
          heap_below = λ k v holds. (old k.loc (inr (k, (v, (holds, inl refl)))), λ n occurs. old n (inr (k, (v, (holds, inr occurs)))));
          current_below = frame_wider s.counter d le s.current h.current_below;
          callers_below = All-weaker (IsFrameBelow s.counter) (IsFrameBelow d) (frame_wider s.counter d le) s.callers h.callers_below;
        })
        (λ n occurs. old n (inl occurs))

    do_action_proper : (b : Bool) (x a : List ℕ) (args : List PureValue) (here : Place) (s : State) → m.takes_symbol a ≡ b → IsProperState memory s → AreBelow s.counter args → IsProperStep memory (do_action b m x a args here s)
    do_action_proper true x a args here s e h below =
        acted_proper x a (Some s.counter) args here s (s.counter + 1) h below (omega arith)
        (λ n is. let same = same_some s.counter n is in omega (arith, same))
        (may_act m true a args s e h below)
    do_action_proper false x a args here s e h below =
        acted_proper x a None args here s s.counter h below (omega arith)
        (λ n is. absurd (no_some n is))
        (may_act m false a args s e h below)

    drawn_proper : (b : Bool) (v : PureValue) (x : List ℕ) (k : Kind) (s : State) → same_kind (kind_of v) k ≡ b → is_drawable k ≡ true → IsProperState memory s → IsProperStep memory (cond b (assigned x v s) (ends (end_at s (bad_input s.draws))))
    drawn_proper true v x k s e d h = assigned_proper x v s h (drawn_below s.counter v k e d)
    drawn_proper false v x k s e d h = end_proper s (bad_input s.draws) h tt

    draw_proper : (o : Option PureValue) (x : List ℕ) (k : Kind) (s : State) → is_drawable k ≡ true → IsProperState memory s → IsProperStep memory (draw o x k s)
    draw_proper None x k s d h = end_proper s (no_input s.draws) h tt
    draw_proper (Some v) x k s d h = drawn_proper (same_kind (kind_of v) k) v x k s refl d h

    branch_proper : (v : PureValue) (i : ℤ) (here : Place) (s : State) → IsProperState memory s → IsProperStep memory (branch v i here s)
    branch_proper (boolean true) i here s h = label_proper i s h
    branch_proper (boolean false) i here s h = next_proper s h
    branch_proper (integer n) i here s h = text_proper _ here s h
    branch_proper (text cs) i here s h = text_proper _ here s h
    branch_proper (symbol n) i here s h = text_proper _ here s h
    branch_proper (kind k) i here s h = text_proper _ here s h
    branch_proper (procedure f) i here s h = text_proper _ here s h
    branch_proper (list vs) i here s h = text_proper _ here s h

    -- the values of the expressions of a well-made command in a proper state
    value_below : (e : PureExpr) (s : State) → is_well_made_expr e ≡ true → IsProperState memory s → HoldsIfValue (Below s.counter) (evaluate e s.current.store)
    value_below e s made h = evaluate-holds (Below s.counter) e s.current.store made h.current_below

    values_below : (es : List PureExpr) (s : State) → list_all is_well_made_expr es ≡ true → IsProperState memory s → HoldsIfValues (Below s.counter) (evaluate_all es s.current.store)
    values_below es s made h = evaluate_all-holds (Below s.counter) es s.current.store made h.current_below

    module _ (p : PureParts) (inputs : List PureValue) where
      do_command_proper : (c : PureCommand) (here : Place) (s : State) → has_well_made_names c ≡ true → list_all is_well_made_expr (exprs_of c) ≡ true → IsProperState memory s → IsProperStep memory (do_command p m inputs c here s)
      do_command_proper (assign x e) here s named made h =
          with_value_proper (evaluate e s.current.store) here s _ h (value_below e s (first_so _ _ made) h) (λ v k. assigned_proper x v s h k)
      do_command_proper (call x e es handler) here s named made h =
          with_value_proper (evaluate e s.current.store) here s _ h (value_below e s (first_so _ _ made) h) (λ f k.
          with_values_proper (evaluate_all es s.current.store) here s _ h (values_below es s (second_so (is_well_made_expr e) _ made) h) (λ args l.
          enter_value_proper p f x (handler_label handler) args here s h l))
      do_command_proper (act x a es) here s named made h =
          with_values_proper (evaluate_all es s.current.store) here s _ h (values_below es s made h) (λ args l.
          do_action_proper (m.takes_symbol a) x a args here s refl h (each_of_all (Below s.counter) args l))
      do_command_proper (usym x) here s named made h = new_symbol_proper x s h
      do_command_proper (isym x k) here s named made h =
          draw_proper (slice_get inputs s.draws) x k _ (second_so (is_program_name x) _ named) (record { heap = h.heap; heap_below = h.heap_below; current_below = h.current_below; callers_below = h.callers_below })
      do_command_proper (ifgoto e i) here s named made h =
          with_value_proper (evaluate e s.current.store) here s _ h (value_below e s (first_so _ _ made) h) (λ v k. branch_proper v i here s h)
      do_command_proper (return e) here s named made h =
          with_value_proper (evaluate e s.current.store) here s _ h (value_below e s (first_so _ _ made) h) (λ v k. leave_proper s.callers v s h h.callers_below k)
      do_command_proper (fail e) here s named made h =
          with_value_proper (evaluate e s.current.store) here s _ h (value_below e s (first_so _ _ made) h) (λ v k. fails_proper v here s h k)
      do_command_proper (throw e) here s named made h =
          with_value_proper (evaluate e s.current.store) here s _ h (value_below e s (first_so _ _ made) h) (λ v k. throw_proper (handling s.callers) v here s h (handled_below s.counter s.callers h.callers_below) k)
      do_command_proper vanish here s named made h = end_proper s vanished h tt
      do_command_proper (fold_use u) here s named made h = next_proper s h
      do_command_proper (unfold_use u) here s named made h = next_proper s h
      do_command_proper (assert_that items) here s named made h = next_proper s h
      do_command_proper (loop_invariant xs ps items) here s named made h = next_proper s h

      step_at_proper : (c : Option PureNumberedCommand) (s : State) → MadeCommand c → IsProperState memory s → IsProperStep memory (step_at p m inputs c s)
      step_at_proper (Some c) s made h = do_command_proper c.command _ s (first_so _ _ made) (second_so (has_well_made_names c.command) _ made) h
      step_at_proper None s made h = h

pub procs_made : (p : PureParts) → is_well_made p ≡ true → list_all is_well_made_proc p.procs ≡ true
procs_made p made = first_so _ _ (first_so _ (list_all is_well_made_pred p.preds) made)

pub stays_proper : StaysProper
stays_proper p memory m inputs s made laws h =
    let procs : list_all is_well_made_proc p.procs ≡ true = procs_made p made in
    step_at_proper memory m laws p inputs (command_at p s.current) s (command_made (find_proc p.procs s.current.procedure) s.current.next (find_made p.procs s.current.procedure procs)) h

pub starts_proper : StartsProper
starts_proper p memory f args h counter is = record {
  heap = is.heap;
  heap_below = is.heap_below;
  current_below = bind_all_below counter _ args (all_of_each (Below counter) args is.arguments_below);
  callers_below = All-nil (IsFrameBelow counter);
}

after_proper : (memory : MemoryName) (r : Step) (go_on : State → End) → IsProperStep memory r → ((s : State) → IsProperState memory s → IsProperEnd memory (go_on s)) → IsProperEnd memory (after r go_on)
after_proper memory (goes_on s) go_on h k = k s h
after_proper memory (ends e) go_on h k = h

pub ends_proper : EndsProper
ends_proper p memory m inputs zero s made laws h = end_proper memory s cut h tt
ends_proper p memory m inputs (suc n) s made laws h =
    after_proper memory (step p m inputs s) _ (stays_proper p memory m inputs s made laws h) (λ t k. ends_proper p memory m inputs n t made laws k)

told_below : (c : ℕ) (e : Ending) → IsEndingBelow c e → IsEndingBelow c (told e)
told_below c (returned v) h = h
told_below c (threw v place) h = h
told_below c (failed v place) h = h
told_below c vanished h = h
told_below c (no_input k) h = h
told_below c (bad_input k) h = h
told_below c cut h = h

pub ends_proper_as_told : EndsProperAsTold
ends_proper_as_told p memory m inputs n s made laws h =
    let end = ends_proper p memory m inputs n s made laws h in
    record { heap = end.heap; heap_below = end.heap_below; ending_below = told_below _ (run p m inputs n s).ending end.ending_below }

-- ---- the counter's symbol

pub counter_is_new : CounterIsNew
counter_is_new memory s h = (
  (λ occurs. let lt = in_heap_below s.counter s.heap s.counter h.heap_below occurs in absurd (omega (arith, lt))),
  (λ x v is occurs. let lt = h.current_below x v is s.counter occurs in absurd (omega (arith, lt))),
)

values_are_below : (c : ℕ) (o : Outcomes) (args : List PureValue) → o ≡ Ok args → HoldsIfValues (Below c) o → AreBelow c args
values_are_below c (Ok vs) args e h = let same : vs ≡ args = cc in subst (AreBelow c) same (each_of_all (Below c) vs h)
values_are_below c (Err f) args e h = absurd (cc)

pub may_act_where_reached : MayActWhereReached
may_act_where_reached memory m s action es args h made e =
    may_act memory m (m.takes_symbol action) action args s refl h
    (values_are_below s.counter (evaluate_all es s.current.store) args e (evaluate_all-holds (Below s.counter) es s.current.store made h.current_below))
