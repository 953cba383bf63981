-- The machine follows the statements of a source program: where a stretch of commands leads that stands for a statement, by
-- what the statement comes to.
use Rattle.std.proofs.Common.{◌≡◌, ℕ, zero, suc, ◌+◌, ◌<◌, ◌≤◌, List, [], ◌∷◌, ◌++◌, pos, Bool, true, false, cond, Option, Some, None, Ok, Err, length, slice_get, refl, sym, ap, subst, ◌∙◌, arith}
use Rattle.std.specs.List.{list_any}
use Rattle.std.proofs.lemmas.Bool.{or_parts}
use Rattle.gil_values.specs.declared.kinds.Kind.TheVariants.{Null}
use Rattle.gil_values.specs.declared.places.Place.{Place}
use Rattle.gil_values.specs.declared.kinds.Kind.{Kind}
use Rattle.gil_values.specs.Pure.{PureValue, integer, boolean, text, symbol, kind, procedure, list, kind_of}
use Rattle.gil_values.specs.Equality.{same_kind}
use Rattle.gil_values.specs.Operators.{Outcome}
use Rattle.gil_syntax.specs.Pure.{return, PureNumberedCommand, PureProc, PureParts}
use Rattle.gil_syntax.specs.Evaluation.{Store, bind, value_of, Outcomes}
use Rattle.gil_syntax.specs.Programs.{find_proc}
use Rattle.mem_model.specs.Pure.{PureOutcome, done, failed as action_failed, miss}
use Rattle.mem_model.specs.Actions.{Actions}
use Rattle.gil_machine.specs.State.{Frame, State, Step, goes_on, ends, End, cut, returned, threw, bad_input, IsOver}
use Rattle.gil_machine.specs.Step as machine
use Rattle.gil_machine.specs.Run.{after, run}
use Rattle.source_language.specs.Completions.{Situation, Completion, normal, returns, throws, over, unfinished, then_do, handled_by, end_of, sets, with_value, with_values, choose, with_outcome, input_of, after_body, back_in, thrown_in, returned_from_entry, thrown_from_entry, end_if_over}
use Rattle.source_language.specs.Names.{is_source_name, IsExtendedBy}
use Rattle.source_language.specs.Procedures.{null, placed, nulls, body_of}
use Rattle.source_language.proofs.NumberedNames.{AreAside, nulls_length}
use Rattle.source_language.proofs.Stores.{bound_value, extended_itself, extended_both, extended_aside}
use Rattle.source_language.proofs.Stretches.{HasAt, has_front, has_back, has_all}

-- the state in which the machine stands at a command of a procedure
abbrev pub state_at : List ℕ → ℕ → List Frame → Store → Situation → State
state_at f pc callers store s = record {
  current = record { procedure = f; next = pc; store = store; waits = None; handler = None };
  callers = callers;
  heap = s.heap;
  counter = s.counter;
  draws = s.draws;
}

-- the place of a statement of a procedure
abbrev pub Here : List ℕ → ℕ → Place
Here f at = record { proc = f; at = at }

-- where a return of a procedure leads
abbrev pub left : List Frame → PureValue → Situation → Step
left [] v s = ends (end_of (returned v) s)
left (caller ∷ callers) v s = goes_on (record {
  current = machine.resumed caller.waits v caller;
  callers = callers;
  heap = s.heap;
  counter = s.counter;
  draws = s.draws;
})

pub leaves : (callers all : List Frame) (f : List ℕ) (pc : ℕ) (v : PureValue) (store : Store) (s : Situation)
    → machine.leave callers v (state_at f pc all store s) ≡ left callers v s
leaves [] all f pc v store s = refl
leaves (caller ∷ callers) all f pc v store s = refl

-- where a throw leads that leaves a procedure
abbrev pub thrown_to : Option machine.Handling → PureValue → Place → Situation → Step
thrown_to (Some h) v here s = goes_on (record {
  current = machine.caught h.label v h.frame;
  callers = h.callers;
  heap = s.heap;
  counter = s.counter;
  draws = s.draws;
})
thrown_to None v here s = ends (end_of (threw v here) s)

abbrev pub thrown : List Frame → PureValue → Place → Situation → Step
thrown callers v here s = thrown_to (machine.handling callers) v here s

pub throws_so : (o : Option machine.Handling) (all : List Frame) (f : List ℕ) (pc : ℕ) (v : PureValue) (here : Place) (store : Store) (s : Situation)
    → machine.throw_to o v here (state_at f pc all store s) ≡ thrown_to o v here s
throws_so (Some h) all f pc v here store s = refl
throws_so None all f pc v here store s = refl

same_throw : (o : Option machine.Handling) (v : PureValue) (here : Place) (s : Situation) (store : Store)
    → thrown_to o v here s ≡ thrown_to o v here (record s { store = store })
same_throw (Some h) v here s store = refl
same_throw None v here s store = refl

-- Where a throw goes from commands of a procedure: none, and it leaves the procedure; or the index of a command, and the variable that
-- has the value there, which is none of the source.
abbrev pub Catcher : Type 0
Catcher = Option (ℕ × List ℕ)

-- the handler of a call that is made there
abbrev pub handler_of : Catcher → Option ℕ
handler_of (Some target) = Some target.0
handler_of None = None

-- the call's variable is that which has the value at its handler
abbrev pub Catches : Catcher → List ℕ → Type 0
Catches (Some target) x = (target.1 ≡ x) × (is_source_name x ≡ false)
Catches None x = Unit {0}

-- The run from a state is the one from where a step leads, but for as many steps as were done: none or more, and one or more.
pub record Leads (go : ℕ → State → End) (s : State) (r : Step) : Type 0 where
  pub by : (k : ℕ) → (j : ℕ) × (k ≤ j) × (go j s ≡ after r (go k))

pub record LeadsOn (go : ℕ → State → End) (s : State) (r : Step) : Type 0 where
  pub by : (k : ℕ) → (j : ℕ) × (k < j) × (go j s ≡ after r (go k))

module _ (go : ℕ → State → End) where
  pub stays : (s : State) → Leads go s (goes_on s)
  stays s = record { by = λ k. (k, omega arith, refl) }

  pub leads : (s : State) (r : Step) → LeadsOn go s r → Leads go s r
  leads s r l = record { by = λ k. let a = l.by k in (a.0, omega (arith, a.1), a.2) }

  pub leads_on : (s t : State) (r : Step) → Leads go s (goes_on t) → Leads go t r → Leads go s r
  leads_on s t r l n = record { by = λ k. let b = n.by k in let a = l.by b.0 in (a.0, omega (arith, a.1, b.1), a.2 ∙ b.2) }

  pub leads_further : (s t : State) (r : Step) → LeadsOn go s (goes_on t) → Leads go t r → LeadsOn go s r
  leads_further s t r l n = record { by = λ k. let b = n.by k in let a = l.by b.0 in (a.0, omega (arith, a.1, b.1), a.2 ∙ b.2) }

module _ (go : ℕ → State → End) where
  -- the same of the commands of a whole body
  abbrev pub Finishes : ℕ → List Frame → State → Completion → Type 0
  Finishes least callers st (normal s) = Leads go st (left callers (kind Null) s)
  Finishes least callers st (returns v s) = Leads go st (left callers v s)
  Finishes least callers st (throws v here s) = Leads go st (thrown callers v here s)
  Finishes least callers st (over e) = Leads go st (ends e) × IsOver e.ending
  Finishes least callers st unfinished = (j : ℕ) × (least ≤ j) × ((go j st).ending ≡ cut)

  pub finishes_after : (least : ℕ) (callers : List Frame) (st next : State) (c : Completion) → Leads go st (goes_on next)
      → Finishes least callers next c → Finishes least callers st c
  finishes_after least callers st next (normal s) l r = leads_on go _ _ _ l r
  finishes_after least callers st next (returns v s) l r = leads_on go _ _ _ l r
  finishes_after least callers st next (throws v here s) l r = leads_on go _ _ _ l r
  finishes_after least callers st next (over e) l r = (leads_on go _ _ _ l r.0, r.1)
  finishes_after least callers st next unfinished l r = let a = l.by r.0 in (a.0, omega (arith, a.1, r.1), ap (λ e. e.ending) a.2 ∙ r.2)

  ends_so : (st : State) (d e : End) → Leads go st (ends d) × IsOver d.ending → Some d ≡ Some e → Leads go st (ends e) × IsOver e.ending
  ends_so st d e r is = let same : d ≡ e = cc in subst (λ x. Leads go st (ends x) × IsOver x.ending) same r

  -- the entry, which has no caller
  pub entry_runs : (least : ℕ) (st : State) (c : Completion) (e : End) → Finishes least [] st c
      → end_if_over (after_body c returned_from_entry thrown_from_entry) ≡ Some e → Leads go st (ends e) × IsOver e.ending
  entry_runs least st (normal s) e r is = ends_so st (end_of (returned (kind Null)) s) e (r, tt) is
  entry_runs least st (returns v s) e r is = ends_so st (end_of (returned v) s) e (r, tt) is
  entry_runs least st (throws v here s) e r is = ends_so st (end_of (threw v here) s) e (r, tt) is
  entry_runs least st (over d) e r is = ends_so st d e r is
  entry_runs least st unfinished e r is = absurd (cc)

  -- where a value that is thrown leads, from a state of the procedure f
  abbrev pub Throws : Catcher → List ℕ → List Frame → State → PureValue → Place → Situation → Type 0
  Throws None f callers st v here s = Leads go st (thrown callers v here s)
  Throws (Some target) f callers st v here s = (store : Store) × IsExtendedBy s.store store × (value_of store target.1 ≡ Some v)
      × Leads go st (goes_on (state_at f target.0 callers store s))

  pub throws_after : (catcher : Catcher) (f : List ℕ) (callers : List Frame) (st next : State) (v : PureValue) (here : Place) (s : Situation)
      → Leads go st (goes_on next) → Throws catcher f callers next v here s → Throws catcher f callers st v here s
  throws_after None f callers st next v here s l r = leads_on go _ _ _ l r
  throws_after (Some target) f callers st next v here s l r = (r.0, r.1, r.2, leads_on go _ _ _ l r.3)

module _ (go : ℕ → State → End) (catcher : Catcher) where
  -- Where the commands lead that stand for a statement, from a state to a place in the procedure f, by what the statement comes
  -- to. Where it is unfinished, the machine goes at least so many steps without an end.
  abbrev pub Runs : ℕ → List ℕ → List Frame → ℕ → State → Completion → Type 0
  Runs least f callers pc st (normal s) = (store : Store) × IsExtendedBy s.store store × Leads go st
      (goes_on (state_at f pc callers store s))
  Runs least f callers pc st (returns v s) = Leads go st (left callers v s)
  Runs least f callers pc st (throws v here s) = Throws go catcher f callers st v here s
  Runs least f callers pc st (over e) = Leads go st (ends e) × IsOver e.ending
  Runs least f callers pc st unfinished = (j : ℕ) × (least ≤ j) × ((go j st).ending ≡ cut)

  pub fewer : (least more : ℕ) (f : List ℕ) (callers : List Frame) (pc : ℕ) (st : State) (c : Completion) → least ≤ more
      → Runs more f callers pc st c → Runs least f callers pc st c
  fewer least more f callers pc st (normal s) le r = r
  fewer least more f callers pc st (returns v s) le r = r
  fewer least more f callers pc st (throws v here s) le r = r
  fewer least more f callers pc st (over e) le r = r
  fewer least more f callers pc st unfinished le r = (r.0, omega (arith, r.1), r.2)

  pub runs_after : (least : ℕ) (f : List ℕ) (callers : List Frame) (pc : ℕ) (st next : State) (c : Completion)
      → Leads go st (goes_on next) → Runs least f callers pc next c → Runs least f callers pc st c
  runs_after least f callers pc st next (normal s) l r = (r.0, r.1, leads_on go _ _ _ l r.2)
  runs_after least f callers pc st next (returns v s) l r = leads_on go _ _ _ l r
  runs_after least f callers pc st next (throws v here s) l r = throws_after go catcher f callers st next v here s l r
  runs_after least f callers pc st next (over e) l r = (leads_on go _ _ _ l r.0, r.1)
  runs_after least f callers pc st next unfinished l r = let a = l.by r.0 in (a.0, omega (arith, a.1, r.1), ap (λ e. e.ending) a.2 ∙ r.2)

  -- after a step there is one more of them
  pub runs_on : (least : ℕ) (f : List ℕ) (callers : List Frame) (pc : ℕ) (st next : State) (c : Completion)
      → LeadsOn go st (goes_on next) → Runs least f callers pc next c → Runs (suc least) f callers pc st c
  runs_on least f callers pc st next (normal s) l r = (r.0, r.1, leads_on go _ _ _ (leads go _ _ l) r.2)
  runs_on least f callers pc st next (returns v s) l r = leads_on go _ _ _ (leads go _ _ l) r
  runs_on least f callers pc st next (throws v here s) l r = throws_after go catcher f callers st next v here s (leads go _ _ l) r
  runs_on least f callers pc st next (over e) l r = (leads_on go _ _ _ (leads go _ _ l) r.0, r.1)
  runs_on least f callers pc st next unfinished l r = let a = l.by r.0 in (a.0, omega (arith, a.1, r.1), ap (λ e. e.ending) a.2 ∙ r.2)

  -- a statement and what follows it
  pub runs_then : (least : ℕ) (f : List ℕ) (callers : List Frame) (pc pc' : ℕ) (st : State) (c : Completion)
      (rest : Situation → Completion) → Runs least f callers pc st c
      → ((store : Store) (s : Situation) → IsExtendedBy s.store store
      → Runs least f callers pc' (state_at f pc callers store s) (rest s)) → Runs least f callers pc' st (then_do c rest)
  runs_then least f callers pc pc' st (normal s) rest r next = runs_after least f callers pc' st _ (rest s) r.2 (next r.0 s r.1)
  runs_then least f callers pc pc' st (returns v s) rest r next = r
  runs_then least f callers pc pc' st (throws v here s) rest r next = r
  runs_then least f callers pc pc' st (over e) rest r next = r
  runs_then least f callers pc pc' st unfinished rest r next = r

  pub at_place : (least : ℕ) (f : List ℕ) (callers : List Frame) (pc pc' : ℕ) (st : State) (c : Completion) → pc ≡ pc'
      → Runs least f callers pc st c → Runs least f callers pc' st c
  at_place least f callers pc pc' st c e r = subst (λ n. Runs least f callers n st c) e r

  -- what is thrown to a call that is made here
  pub thrown_runs : (f x : List ℕ) (callers : List Frame) (pc : ℕ) (store : Store) (caller s : Situation) (st : State) (v : PureValue) (here : Place)
      → IsExtendedBy caller.store store → Catches catcher x
      → Leads go st (thrown (record { procedure = f; next = pc; store = store; waits = Some x; handler = handler_of catcher } ∷ callers) v here s)
      → Throws go catcher f callers st v here (record s { store = caller.store })
  thrown_runs f x callers pc store caller s st v here more catches l = by catcher catches l
    where
      by : (c : Catcher) → Catches c x
          → Leads go st (thrown (record { procedure = f; next = pc; store = store; waits = Some x; handler = handler_of c } ∷ callers) v here s)
          → Throws go c f callers st v here (record s { store = caller.store })
      by None k l = subst (Leads go st) (same_throw (machine.handling callers) v here s caller.store) l
      by (Some target) k l = (
        bind x v store,
        extended_aside x v caller.store store k.1 more,
        subst (λ y. value_of (bind x v store) y ≡ Some v) (sym k.0) (bound_value x v store),
        l,
      )

  -- A call: the body is run above the caller, and what is done with its result follows in the caller. What it throws goes to the handler
  -- of the place.
  pub call_then_runs : (less least : ℕ) (f x : List ℕ) (callers : List Frame) (pc pc' : ℕ) (store : Store) (caller : Situation) (st first : State)
      (c : Completion) (go_on : PureValue → Situation → Completion) → least ≤ suc less
      → IsExtendedBy caller.store store → Catches catcher x → LeadsOn go st (goes_on first)
      → Finishes go less (record { procedure = f; next = pc; store = store; waits = Some x; handler = handler_of catcher } ∷ callers) first c
      → ((v : PureValue) (s : Situation) → Runs least f callers pc' (state_at f pc callers (bind x v store) s) (go_on v s))
      → Runs least f callers pc' st (after_body c go_on (thrown_in caller))
  call_then_runs less least f x callers pc pc' store caller st first (normal s) go_on le more catches l r next =
      runs_after least f callers pc' st _ (go_on (kind Null) s) (leads_on go _ _ _ (leads go _ _ l) r) (next (kind Null) s)
  call_then_runs less least f x callers pc pc' store caller st first (returns v s) go_on le more catches l r next =
      runs_after least f callers pc' st _ (go_on v s) (leads_on go _ _ _ (leads go _ _ l) r) (next v s)
  call_then_runs less least f x callers pc pc' store caller st first (throws v here s) go_on le more catches l r next =
      thrown_runs f x callers pc store caller s st v here more catches (leads_on go _ _ _ (leads go _ _ l) r)
  call_then_runs less least f x callers pc pc' store caller st first (over e) go_on le more catches l r next =
      (leads_on go _ _ _ (leads go _ _ l) r.0, r.1)
  call_then_runs less least f x callers pc pc' store caller st first unfinished go_on le more catches l r next =
      let a = l.by r.0 in (a.0, omega (arith, a.1, r.1, le), ap (λ e. e.ending) a.2 ∙ r.2)

  -- a call whose result a variable gets
  pub call_runs : (least : ℕ) (f x : List ℕ) (callers : List Frame) (pc : ℕ) (store : Store) (caller : Situation) (st first : State)
      (c : Completion) → IsExtendedBy caller.store store → Catches catcher x → LeadsOn go st (goes_on first)
      → Finishes go least (record { procedure = f; next = pc; store = store; waits = Some x; handler = handler_of catcher } ∷ callers) first c
      → Runs (suc least) f callers pc st (after_body c (back_in caller x) (thrown_in caller))
  call_runs least f x callers pc store caller st first c more catches l r =
      call_then_runs least (suc least) f x callers pc pc store caller st first c (back_in caller x) (omega arith) more catches l r
      (λ v s. (bind x v store, extended_both x v caller.store store more, stays go _))

-- A body is run from the first of its commands to the last, which returns Null. What it throws leaves it.
pub finishes : (go : ℕ → State → End) (least : ℕ) (f : List ℕ) (callers : List Frame) (pc : ℕ) (st : State) (c : Completion)
    → Runs go None least f callers pc st c
    → ((store : Store) (s : Situation) → Leads go (state_at f pc callers store s) (left callers (kind Null) s))
    → Finishes go least callers st c
finishes go least f callers pc st (normal s) r last = leads_on go _ _ _ r.2 (last r.0 s)
finishes go least f callers pc st (returns v s) r last = r
finishes go least f callers pc st (throws v here s) r last = r
finishes go least f callers pc st (over e) r last = r
finishes go least f callers pc st unfinished r last = r

-- Commands inside a block whose throws are handled, and the handler behind it, which begins with the value in its variable.
pub handled_runs : (go : ℕ → State → End) (catcher : Catcher) (least : ℕ) (f : List ℕ) (callers : List Frame) (pc label : ℕ) (x : List ℕ) (st : State)
    (c : Completion) (handler : PureValue → Situation → Completion)
    → Runs go (Some (label, x)) least f callers pc st c
    → ((v : PureValue) (store : Store) (s : Situation) → IsExtendedBy s.store store → value_of store x ≡ Some v
    → Runs go catcher least f callers pc (state_at f label callers store s) (handler v s))
    → Runs go catcher least f callers pc st (handled_by c handler)
handled_runs go catcher least f callers pc label x st (normal s) handler r next = r
handled_runs go catcher least f callers pc label x st (returns v s) handler r next = r
handled_runs go catcher least f callers pc label x st (throws v here s) handler r next =
    runs_after go catcher least f callers pc st _ (handler v s) r.3 (next v r.0 s r.1 r.2)
handled_runs go catcher least f callers pc label x st (over e) handler r next = r
handled_runs go catcher least f callers pc label x st unfinished handler r next = r

-- ---- one command

-- what a command does that stands for a statement by itself
abbrev pub Matches : List ℕ → List Frame → ℕ → Completion → Step → Type 0
Matches f callers pc (normal s) r = (store : Store) × IsExtendedBy s.store store × (r ≡ goes_on (state_at f pc callers store s))
Matches f callers pc (returns v s) r = r ≡ left callers v s
Matches f callers pc (throws v here s) r = ⊥
Matches f callers pc (over e) r = (r ≡ ends e) × IsOver e.ending
Matches f callers pc unfinished r = ⊥

pub value_matches : (f : List ℕ) (callers : List Frame) (pc pc' : ℕ) (store : Store) (s : Situation) (here : Place) (o : Outcome)
    (then : PureValue → Completion) (then' : PureValue → Step) → ((v : PureValue) → Matches f callers pc' (then v) (then' v))
    → Matches f callers pc' (with_value o here s then) (machine.with_value o here (state_at f pc callers store s) then')
value_matches f callers pc pc' store s here (Ok v) then then' m = m v
value_matches f callers pc pc' store s here (Err fault) then then' m = (refl, tt)

pub values_match : (f : List ℕ) (callers : List Frame) (pc pc' : ℕ) (store : Store) (s : Situation) (here : Place) (o : Outcomes)
    (then : List PureValue → Completion) (then' : List PureValue → Step)
    → ((vs : List PureValue) → Matches f callers pc' (then vs) (then' vs))
    → Matches f callers pc' (with_values o here s then) (machine.with_values o here (state_at f pc callers store s) then')
values_match f callers pc pc' store s here (Ok vs) then then' m = m vs
values_match f callers pc pc' store s here (Err fault) then then' m = (refl, tt)

pub input_matches : (f x : List ℕ) (k : Kind) (callers : List Frame) (pc : ℕ) (store : Store) (s : Situation) (o : Option PureValue)
    → IsExtendedBy s.store store → Matches f callers (pc + 1) (input_of o x k s) (machine.draw o x k (state_at f pc callers store s))
input_matches f x k callers pc store s None more = (refl, tt)
input_matches f x k callers pc store s (Some v) more = of_kind (same_kind (kind_of v) k)
  where
    of_kind : (b : Bool) → Matches f callers (pc + 1) (cond b (normal (sets x v s)) (over (end_of (bad_input s.draws) s)))
        (cond b (machine.assigned x v (state_at f pc callers store s)) (ends (end_of (bad_input s.draws) s)))
    of_kind true = (bind x v store, extended_both x v s.store store more, refl)
    of_kind false = (refl, tt)

module _ (p : PureParts) (m : Actions) (inputs : List PureValue) (f : List ℕ) (q : PureProc) (found : find_proc p.procs f ≡ Some q)
    (callers : List Frame) (catcher : Catcher) where
  -- the step at a command of the procedure
  pub steps : (pc : ℕ) (c : PureNumberedCommand) (store : Store) (s : Situation) → slice_get q.body pc ≡ Some c
      → machine.step p m inputs (state_at f pc callers store s) ≡ machine.do_command p m inputs c.command
      (record { proc = f; at = c.at }) (state_at f pc callers store s)
  steps pc c store s at = ap (λ o. machine.step_at p m inputs o (state_at f pc callers store s))
      (ap (λ o. machine.command_of o pc) found ∙ at)

  pub one_step : (st : State) (r : Step) → machine.step p m inputs st ≡ r → LeadsOn (run p m inputs) st r
  one_step st r is = record { by = λ k. (suc k, omega arith, ap (λ x. after x (run p m inputs k)) is) }

  pub matched : (least pc : ℕ) (st : State) (r : Step) (c : Completion) → machine.step p m inputs st ≡ r → Matches f callers pc c r
      → Runs (run p m inputs) catcher least f callers pc st c
  matched least pc st r (normal s) is h = (h.0, h.1, leads _ _ _ (one_step st _ (is ∙ h.2)))
  matched least pc st r (returns v s) is h = leads _ _ _ (one_step st _ (is ∙ h))
  matched least pc st r (throws v here s) is h = absurd h
  matched least pc st r (over e) is h = (leads _ _ _ (one_step st _ (is ∙ h.0)), h.1)
  matched least pc st r unfinished is h = absurd h

  -- a throw that leaves the procedure
  pub throw_runs : (pc : ℕ) (store : Store) (s : Situation) (v : PureValue) (here : Place)
      → machine.step p m inputs (state_at f pc callers store s) ≡ machine.throw_to (machine.handling callers) v here (state_at f pc callers store s)
      → Throws (run p m inputs) None f callers (state_at f pc callers store s) v here s
  throw_runs pc store s v here is = leads _ _ _ (one_step _ _ (is ∙ throws_so (machine.handling callers) callers f pc v here store s))

  -- a value of an expression, where the machine goes on in one step from there
  pub value_runs : (least pc pc' : ℕ) (store : Store) (s : Situation) (here : Place) (o : Outcome) (then : PureValue → Completion)
      (then' : PureValue → Step) → machine.step p m inputs (state_at f pc callers store s) ≡ machine.with_value o here
      (state_at f pc callers store s) then' → ((v : PureValue) → machine.step p m inputs (state_at f pc callers store s) ≡ then' v
      → Runs (run p m inputs) catcher least f callers pc' (state_at f pc callers store s) (then v))
      → Runs (run p m inputs) catcher least f callers pc' (state_at f pc callers store s) (with_value o here s then)
  value_runs least pc pc' store s here (Ok v) then then' is next = next v is
  value_runs least pc pc' store s here (Err fault) then then' is next = (leads _ _ _ (one_step _ _ is), tt)

  pub values_run : (least pc pc' : ℕ) (store : Store) (s : Situation) (here : Place) (o : Outcomes) (then : List PureValue → Completion)
      (then' : List PureValue → Step) → machine.step p m inputs (state_at f pc callers store s) ≡ machine.with_values o here
      (state_at f pc callers store s) then' → ((vs : List PureValue) → machine.step p m inputs
      (state_at f pc callers store s) ≡ then' vs → Runs (run p m inputs) catcher least f callers pc' (state_at f pc callers store s) (then vs))
      → Runs (run p m inputs) catcher least f callers pc' (state_at f pc callers store s) (with_values o here s then)
  values_run least pc pc' store s here (Ok vs) then then' is next = next vs is
  values_run least pc pc' store s here (Err fault) then then' is next = (leads _ _ _ (one_step _ _ is), tt)

  -- a condition, at which the machine goes to a label or to the next command
  pub choice_runs : (least pc label pc' : ℕ) (store : Store) (s : Situation) (here : Place) (o : Outcome)
      (on off : Situation → Completion) → machine.step p m inputs (state_at f pc callers store s) ≡ machine.with_value o here
      (state_at f pc callers store s) (λ v. machine.branch v (pos label) here (state_at f pc callers store s))
      → Runs (run p m inputs) catcher least f callers pc' (state_at f label callers store s) (on s)
      → Runs (run p m inputs) catcher least f callers pc' (state_at f (pc + 1) callers store s) (off s)
      → Runs (run p m inputs) catcher (suc least) f callers pc' (state_at f pc callers store s) (with_value o here s (λ v. choose v here on off s))
  choice_runs least pc label pc' store s here o on off is on_runs off_runs = value_runs (suc least) pc pc' store s here o _ _ is by_value
    where
      by_value : (v : PureValue) → machine.step p m inputs (state_at f pc callers store s) ≡ machine.branch v (pos label) here
          (state_at f pc callers store s) → Runs (run p m inputs) catcher (suc least) f callers pc' (state_at f pc callers store s)
          (choose v here on off s)
      by_value (boolean true) goes = runs_on (run p m inputs) catcher least f callers pc' _ _ (on s) (one_step _ _ goes) on_runs
      by_value (boolean false) goes = runs_on (run p m inputs) catcher least f callers pc' _ _ (off s) (one_step _ _ goes) off_runs
      by_value (integer n) goes = (leads _ _ _ (one_step _ _ goes), tt)
      by_value (text cs) goes = (leads _ _ _ (one_step _ _ goes), tt)
      by_value (symbol n) goes = (leads _ _ _ (one_step _ _ goes), tt)
      by_value (kind k) goes = (leads _ _ _ (one_step _ _ goes), tt)
      by_value (procedure g) goes = (leads _ _ _ (one_step _ _ goes), tt)
      by_value (list vs) goes = (leads _ _ _ (one_step _ _ goes), tt)

  -- what an action came to: where it is done, its value is the variable's, and the machine goes on at the next command
  pub outcome_runs : (least pc pc' : ℕ) (x : List ℕ) (store : Store) (s : Situation) (here : Place) (st : State) (o : PureOutcome)
      (then : PureValue → Situation → Completion) → machine.step p m inputs st ≡ machine.after_action o x here
      (state_at f pc callers store s) → ((v : PureValue) → Runs (run p m inputs) catcher least f callers pc' (state_at f (pc + 1) callers
      (bind x v store) s) (then v s)) → Runs (run p m inputs) catcher least f callers pc' st (with_outcome o here s then)
  outcome_runs least pc pc' x store s here st (done v) then is next = runs_after (run p m inputs) catcher least f callers pc' st _ (then v s)
      (leads _ _ _ (one_step st _ is)) (next v)
  outcome_runs least pc pc' x store s here st (action_failed v) then is next = (leads _ _ _ (one_step st _ is), tt)
  outcome_runs least pc pc' x store s here st (miss key) then is next = (leads _ _ _ (one_step st _ is), tt)

-- ---- a whole procedure

module _ (p : PureParts) (m : Actions) (inputs : List PureValue) (f : List ℕ) (q : PureProc) (found : find_proc p.procs f ≡ Some q)
    (callers : List Frame) where
  nulls_run : (at : ℕ) (xs : List (List ℕ)) (pc : ℕ) (first store : Store) (s : Situation) → AreAside xs → IsExtendedBy first store
      → HasAt q.body pc (nulls at xs) → (more : Store) × IsExtendedBy first more × Leads (run p m inputs)
      (state_at f pc callers store s) (goes_on (state_at f (pc + length (nulls at xs)) callers more s))
  nulls_run at [] pc first store s aside more has =
      let e : pc ≡ pc + 0 = omega arith in (
        store,
        more,
        subst (λ k. Leads (run p m inputs) (state_at f pc callers store s) (goes_on (state_at f k callers store s))) e
            (stays (run p m inputs) _),
      )
  nulls_run at (x ∷ xs) pc first store s aside more has =
      let parts = or_parts (is_source_name x) (list_any is_source_name xs) aside in
      let rest = nulls_run at xs (pc + 1) first (bind x (kind Null) store) s parts.1 (extended_aside x (kind Null) first store parts.0 more) has.1 in
      let here = one_step p m inputs f q found callers None _ _ (steps p m inputs f q found callers None pc _ store s has.0) in
      let e : pc + 1 + length (nulls at xs) ≡ pc + length (nulls at (x ∷ xs)) = omega arith in (
        rest.0,
        rest.1,
        subst (λ k. Leads (run p m inputs) (state_at f pc callers store s) (goes_on (state_at f k callers rest.0 s))) e
            (leads_on _ _ _ _ (leads _ _ _ here) rest.2),
      )

  -- where the commands of its statements run as a completion says, so does the procedure
  pub procedure_finishes : (at : ℕ) (names : List (List ℕ)) (least : ℕ) (code : ℕ → List PureNumberedCommand) (first : Store) (s : Situation)
      (c : Completion) → AreAside names → q.body ≡ body_of at names code
      → ((store : Store) → IsExtendedBy first store → HasAt q.body (length names) (code (length names))
      → Runs (run p m inputs) None least f callers (length names + length (code (length names))) (state_at f (length names) callers store s) c)
      → Finishes (run p m inputs) least callers (state_at f 0 callers first s) c
  procedure_finishes at names least code first s c aside is runs = finishes_after _ least callers _ _ c begun.2
      (finishes _ least f callers _ _ c (runs begun.0 begun.1 at_code) last)
    where
      count : ℕ
      count = length names

      front : List PureNumberedCommand
      front = nulls at names

      back : List PureNumberedCommand
      back = code count ++ placed at (return null) ∷ []

      all : HasAt q.body 0 (front ++ back)
      all = subst (λ b. HasAt b 0 (front ++ back)) (sym is) (has_all (front ++ back) [])

      there : 0 + length front ≡ count
      there = omega (arith, nulls_length at names)

      begun : (more : Store) × IsExtendedBy first more × Leads (run p m inputs) (state_at f 0 callers first s)
          (goes_on (state_at f count callers more s))
      begun =
          let r = nulls_run at names 0 first first s aside (extended_itself first) (has_front q.body 0 front back all) in
          (r.0, r.1, subst (λ n. Leads (run p m inputs) (state_at f 0 callers first s) (goes_on (state_at f n callers r.0 s))) there r.2)

      at_back : HasAt q.body count back
      at_back = subst (λ n. HasAt q.body n back) there (has_back q.body 0 front back all)

      at_code : HasAt q.body count (code count)
      at_code = has_front q.body count (code count) _ at_back

      last : (store : Store) (t : Situation) → Leads (run p m inputs) (state_at f (count + length (code count)) callers store t)
          (left callers (kind Null) t)
      last store t = leads _ _ _ (one_step p m inputs f q found callers None _ _ (steps p m inputs f q found callers None _ _ store t
          (has_back q.body count (code count) _ at_back).0 ∙ leaves callers callers f _ (kind Null) store t))
