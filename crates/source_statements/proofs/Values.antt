-- The machine follows draws of inputs and calls whose values are handed on.
use Rattle.std.proofs.Common.{◌≡◌, ℕ, ◌+◌, ◌-◌, List, ◌∷◌, Bool, true, false, cond, Option, Some, None, length, slice_get, refl, sym, ap, subst, ◌∙◌, arith}
use Rattle.std.specs.Prelude.{codes, ◌==◌}
use Rattle.std.specs.Option.{option_map}
use Rattle.gil_values.specs.declared.kinds.Kind.{Kind}
use Rattle.gil_values.specs.declared.kinds.Kind.TheVariants.{Null}
use Rattle.gil_values.specs.declared.places.Place.{Place}
use Rattle.gil_values.specs.Pure.{PureValue, text, kind, kind_of}
use Rattle.gil_values.specs.Equality.{same_kind}
use Rattle.gil_syntax.specs.Pure.{isym, PureProc, PureParts}
use Rattle.gil_syntax.specs.Programs.{find_proc}
use Rattle.gil_syntax.specs.Evaluation.{Store, bind}
use Rattle.mem_model.specs.Actions.{Actions}
use Rattle.gil_machine.specs.State.{Frame, State, goes_on, ends, bad_input}
use Rattle.gil_machine.specs.Step as machine
use Rattle.gil_machine.specs.Run.{run}
use Rattle.source_language.specs.Calls.{Calls}
use Rattle.source_language.specs.Completions.{Situation, Completion, normal, returns, throws, over, unfinished, end_of, fails, after_body, thrown_in}
use Rattle.source_language.specs.Names.{IsExtendedBy}
use Rattle.source_language.specs.Procedures.{placed}
use Rattle.source_language.specs.Pure.{PureFunction, find_function}
use Rattle.source_language.proofs.Ends.{CallsFollow, KeepsHead}
use Rattle.source_language.proofs.Following.{state_at, Here, Catcher, handler_of, Catches, leads, Runs, runs_after, call_then_runs, steps, one_step}
use Rattle.source_language.proofs.Longer.{Extends, extends_itself}
use Rattle.source_language.proofs.MoreTurns.{CallsExtend}
use Rattle.source_statements.specs.Values.{Continuation, input_value, draws_value, call_function}

module _ (p : PureParts) (m : Actions) (inputs : List PureValue) (f : List ℕ) (q : PureProc) (found : find_proc p.procs f ≡ Some q)
    (callers : List Frame) (catcher : Catcher) (some end : ℕ) where
  -- the next input, which a variable of the machine gets
  pub draw_runs : (pc at : ℕ) (x : List ℕ) (k : Kind) (store : Store) (s : Situation) (go : Continuation)
      → slice_get q.body pc ≡ Some (placed at (isym x k))
      → ((v : PureValue) → Runs (run p m inputs) catcher some f callers end
      (state_at f (pc + 1) callers (bind x v store) (record s { draws = s.draws + 1 })) (go v (record s { draws = s.draws + 1 })))
      → Runs (run p m inputs) catcher some f callers end (state_at f pc callers store s) (draws_value inputs k s go)
  draw_runs pc at x k store s go has next = drawn (slice_get inputs s.draws) (steps p m inputs f q found callers catcher pc _ store s has)
    where
      then : Situation
      then = record s { draws = s.draws + 1 }

      by_kind : (b : Bool) (v : PureValue) → machine.step p m inputs (state_at f pc callers store s) ≡ cond b
          (machine.assigned x v (state_at f pc callers store then)) (ends (end_of (bad_input then.draws) then))
          → Runs (run p m inputs) catcher some f callers end (state_at f pc callers store s) (cond b (go v then) (over (end_of (bad_input then.draws) then)))
      by_kind true v is = runs_after (run p m inputs) catcher some f callers end _ _ (go v then) (leads _ _ _ (one_step p m inputs f q found callers catcher _ _ is)) (next v)
      by_kind false v is = (leads _ _ _ (one_step p m inputs f q found callers catcher _ _ is), tt)

      drawn : (o : Option PureValue) → machine.step p m inputs (state_at f pc callers store s) ≡ machine.draw o x k (state_at f pc callers store then)
          → Runs (run p m inputs) catcher some f callers end (state_at f pc callers store s) (input_value o k then go)
      drawn None is = (leads _ _ _ (one_step p m inputs f q found callers catcher _ _ is), tt)
      drawn (Some v) is = by_kind (same_kind (kind_of v) k) v is

module _ {B : Type 0} (procedure : PureFunction B → PureProc) (keeps : KeepsHead procedure)
    (p : PureParts) (m : Actions) (inputs : List PureValue) (functions : List (PureFunction B)) (calls : Calls B) (least : ℕ)
    (calls_follow : CallsFollow p m inputs functions calls (least - 1)) (f : List ℕ) (q : PureProc) (found : find_proc p.procs f ≡ Some q)
    (callers : List Frame) (catcher : Catcher) (end : ℕ) where
  -- a call of a function, of none, or with another number of arguments, whose result a variable of the machine gets; what it throws goes to
  -- the handler of the place
  pub call_runs : (pc at : ℕ) (x g : List ℕ) (o : Option (PureFunction B)) (args : List PureValue) (store : Store) (s : Situation) (go : Continuation)
      → find_function functions g ≡ o → IsExtendedBy s.store store → Catches catcher x
      → machine.step p m inputs (state_at f pc callers store s) ≡ machine.enter_found (option_map procedure o) x (handler_of catcher) args (Here f at)
      (state_at f pc callers store s)
      → ((v : PureValue) (t : Situation) → Runs (run p m inputs) catcher least f callers end
      (state_at f (pc + 1) callers (bind x v store) t) (go v (record t { store = s.store })))
      → Runs (run p m inputs) catcher least f callers end (state_at f pc callers store s) (call_function calls o args (Here f at) s go)
  call_runs pc at x g None args store s go there ext catches is next = (leads _ _ _ (one_step p m inputs f q found callers catcher _ _ is), tt)
  call_runs pc at x g (Some h) args store s go there ext catches is next = by_arity (length args == length h.params)
      (is ∙ ap (λ ps. cond (length args == length ps) (machine.enter (procedure h) x (handler_of catcher) args (state_at f pc callers store s))
      (machine.fails_with (text (codes "arity")) (Here f at) (state_at f pc callers store s))) (keeps.params h))
    where
      caller : Frame
      caller = record { procedure = f; next = pc + 1; store = store; waits = Some x; handler = handler_of catcher }

      first : State
      first = state_at h.name 0 (caller ∷ callers) (machine.bind_all h.params args) s

      entered : machine.enter (procedure h) x (handler_of catcher) args (state_at f pc callers store s) ≡ goes_on first
      entered =
          ap (λ ps. goes_on (state_at (procedure h).name 0 (caller ∷ callers) (machine.bind_all ps args) s)) (keeps.params h)
          ∙ ap (λ n. goes_on (state_at n 0 (caller ∷ callers) (machine.bind_all h.params args) s)) (keeps.name h)

      by_arity : (b : Bool) → machine.step p m inputs (state_at f pc callers store s) ≡ cond b
          (machine.enter (procedure h) x (handler_of catcher) args (state_at f pc callers store s))
          (machine.fails_with (text (codes "arity")) (Here f at) (state_at f pc callers store s))
          → Runs (run p m inputs) catcher least f callers end (state_at f pc callers store s)
          (cond b (after_body (calls h args s) (λ v t. go v (record t { store = s.store })) (thrown_in s)) (fails (text (codes "arity")) (Here f at) s))
      by_arity true goes =
          call_then_runs (run p m inputs) catcher (least - 1) least f x callers (pc + 1) end store s (state_at f pc callers store s) first (calls h args s)
          (λ v t. go v (record t { store = s.store })) (omega arith) ext catches (one_step p m inputs f q found callers catcher _ _ (goes ∙ entered))
          (calls_follow g h args (caller ∷ callers) s there) next
      by_arity false goes = (leads _ _ _ (one_step p m inputs f q found callers catcher _ _ goes), tt)

-- ---- more turns

pub after-extends : (c d : Completion) (go go' : Continuation) (thrown : PureValue → Place → Situation → Completion) → Extends c d
    → ((v : PureValue) (t : Situation) → Extends (go v t) (go' v t)) → Extends (after_body c go thrown) (after_body d go' thrown)
after-extends (normal s) d go go' thrown h k = subst (λ x. Extends (go (kind Null) s) (after_body x go' thrown)) (sym h) (k (kind Null) s)
after-extends (returns v s) d go go' thrown h k = subst (λ x. Extends (go v s) (after_body x go' thrown)) (sym h) (k v s)
after-extends (throws v here s) d go go' thrown h k = subst (λ x. Extends (thrown v here s) (after_body x go' thrown)) (sym h) (extends_itself (thrown v here s))
after-extends (over e) d go go' thrown h k = ap (λ x. after_body x go' thrown) h
after-extends unfinished d go go' thrown h k = tt

module _ {B : Type 0} (calls deeper : Calls B) (more : CallsExtend calls deeper) (go go' : Continuation)
    (goes : (v : PureValue) (t : Situation) → Extends (go v t) (go' v t)) where
  arity-extends : (b : Bool) (c d : Completion) (here : Place) (s : Situation) → Extends c d
      → Extends (cond b (after_body c (λ v t. go v (record t { store = s.store })) (thrown_in s)) (fails (text (codes "arity")) here s))
      (cond b (after_body d (λ v t. go' v (record t { store = s.store })) (thrown_in s)) (fails (text (codes "arity")) here s))
  arity-extends true c d here s h = after-extends c d _ _ (thrown_in s) h (λ v t. goes v (record t { store = s.store }))
  arity-extends false c d here s h = refl

  pub function-extends : (o : Option (PureFunction B)) (args : List PureValue) (here : Place) (s : Situation)
      → Extends (call_function calls o args here s go) (call_function deeper o args here s go')
  function-extends None args here s = refl
  function-extends (Some f) args here s = arity-extends (length args == length f.params) (calls f args s) (deeper f args s) here s (more f args s)
