-- What a command comes to with the values of its expressions, and at their first fault.
use Rattle.std.proofs.Common.{◌≡◌, ℕ, ◌==◌, length, codes, Bool, true, false, cond, List, [], Option, Some, None, Result, Ok, Err, refl, sym, ap, ap₂, subst, ◌∙◌, rules}
use Rattle.gil_values.specs.declared.tree.Value.{the_lemmas}
use Rattle.gil_values.specs.declared.tree.Value.TheVariants as values
use Rattle.gil_values.specs.View.{value_view}
use Rattle.gil_values.specs.declared.places.Place.{Place}
use Rattle.gil_values.specs.Pure.{PureValue, text, symbol, procedure}
use Rattle.gil_values.specs.Operators.{Fault, wrong_kind, zero_divisor, out_of_range, unset_variable, fault_text, Outcome}
use Rattle.gil_syntax.specs.Pure.{PureParts, PureProc}
use Rattle.gil_syntax.specs.Programs.{find_proc}
use Rattle.gil_syntax.specs.Evaluation.{Outcomes}
use Rattle.mem_model.specs.Actions.{Actions}
use Rattle.mem_model.specs.Heaps.{Heap}
use Rattle.mem_model.specs.Pure.{PureOutcome}
use Rattle.gil_machine.specs.declared.control.Control.{Control}
use Rattle.gil_machine.specs.declared.endings.Ending.{Ending as KeptEnding}
use Rattle.gil_machine.specs.declared.endings.Ending.TheVariants as kept
use Rattle.gil_machine.specs.declared.faults.EvaluationFault.{EvaluationFault}
use Rattle.gil_machine.specs.declared.faults.EvaluationFault.TheVariants as faults
use Rattle.gil_machine.specs.Gives.{held_fault, IsFault}
use Rattle.gil_machine.specs.Held.{HeldFault, of_table, too_wide, HeldOutcome, HeldOutcomes, both_held, is_too_wide}
use Rattle.gil_machine.specs.Standing.{Stands, EndsAs, Comes, FaultEnds, IsAtNumber}
use Rattle.gil_machine.specs.State.{State, failed, Step, goes_on, ends}
use Rattle.gil_machine.specs.Step.{fails_with, with_value, with_values, enter, enter_found, enter_value, action_result, acted, after_action, counted, do_action}
use Rattle.gil_machine.specs.Laws.{handed}
use Rattle.gil_machine.proofs.HeldValues.{Tells}

-- the place, where this outcome is too wide
abbrev pub wide_at : {X : Type 0} → Result X HeldFault → Place → Option Place
wide_at H place = cond (is_too_wide H) (Some place) None

-- the run fails here
pub fails_here : (p : PureParts) (v : PureValue) (place : Place) (s : State) (ending : KeptEnding) (c : Control) (h : Heap)
    → EndsAs ending (failed v place) → Stands p c s → s.heap ≡ h → Comes p None (fails_with v place s) (Some ending) c h
fails_here p v place s ending c h ends_as stands heap = (ends_as, heap, stands.counter, stands.draws)

table_stops : (p : PureParts) (n : Option Place) (r : Step) (f : Fault) (place : Place) (s : State) (ending : KeptEnding) (c : Control) (h : Heap)
    → (n ≡ None) × (r ≡ fails_with (text (fault_text f)) place s) → EndsAs ending (failed (text (fault_text f)) place) → Stands p c s → s.heap ≡ h → Comes p n r (Some ending) c h
table_stops p n r f place s ending c h leads ends_as stands heap = rw leads.0 (rw leads.1 (fails_here p (text (fault_text f)) place s ending c h ends_as stands heap))

-- what a fault of evaluation leads to: a fault of the table fails, and a result that is too wide is a number
pub fault_stops : {X : Type 0} (p : PureParts) (n : Option Place) (r : Step) (fault : EvaluationFault) (H : Result X HeldFault) (place : Place) (s : State) (ending : KeptEnding) (c : Control) (h : Heap)
    → IsFault (held_fault fault) H
    → ((f : Fault) → H ≡ Err (of_table f) → (n ≡ None) × (r ≡ fails_with (text (fault_text f)) place s))
    → (H ≡ Err too_wide → n ≡ Some place)
    → FaultEnds fault place ending → Stands p c s → s.heap ≡ h → Comes p n r (Some ending) c h
fault_stops p n r faults.WrongKind H place s ending c h is table wide ends_as stands heap = table_stops p n r wrong_kind place s ending c h (table wrong_kind is) ends_as stands heap
fault_stops p n r faults.Zero H place s ending c h is table wide ends_as stands heap = table_stops p n r zero_divisor place s ending c h (table zero_divisor is) ends_as stands heap
fault_stops p n r faults.Range H place s ending c h is table wide ends_as stands heap = table_stops p n r out_of_range place s ending c h (table out_of_range is) ends_as stands heap
fault_stops p n r faults.Unset H place s ending c h is table wide ends_as stands heap = table_stops p n r unset_variable place s ending c h (table unset_variable is) ends_as stands heap
fault_stops p n r faults.Number H place s ending c h is table wide ends_as stands heap = rw (wide is) (rw ends_as refl)
fault_stops p n r faults.Memory H place s ending c h is table wide ends_as stands heap = absurd ends_as

-- ---- one expression

told_fault : {X : Type 0} (H : Result X HeldFault) (o : Result X Fault) (f : Fault) → Tells H o → H ≡ Err (of_table f) → o ≡ Err f
told_fault H o f told is = subst (λ G. Tells G o) is told

pub told_value : {X : Type 0} (H : Result X HeldFault) (o : Result X Fault) (x : X) → Tells H o → H ≡ Ok x → o ≡ Ok x
told_value H o x told is = subst (λ G. Tells G o) is told

-- the command goes on with the value
pub value_goes : (p : PureParts) (H : HeldOutcome) (o : Outcome) (v : PureValue) (place : Place) (s : State) (k : PureValue → Step) (end : Option KeptEnding) (c : Control) (h : Heap)
    → H ≡ Ok v → Tells H o → Comes p None (k v) end c h → Comes p (wide_at (both_held H (Ok [])) place) (with_value o place s k) end c h
value_goes p H o v place s k end c h is told comes = rw is (rw (told_value H o v told is) comes)

-- the command ends at its fault
pub value_stops : (p : PureParts) (H : HeldOutcome) (o : Outcome) (fault : EvaluationFault) (place : Place) (s : State) (k : PureValue → Step) (ending : KeptEnding) (c : Control) (h : Heap)
    → IsFault (held_fault fault) H → Tells H o → FaultEnds fault place ending → Stands p c s → s.heap ≡ h
    → Comes p (wide_at (both_held H (Ok [])) place) (with_value o place s k) (Some ending) c h
value_stops p H o fault place s k ending c h is told ends_as stands heap =
    fault_stops p _ (with_value o place s k) fault H place s ending c h is
    (λ f found. (ap (λ G. wide_at (both_held G (Ok [])) place) found, ap (λ r. with_value r place s k) (told_fault H o f told found)))
    (λ found. ap (λ G. wide_at (both_held G (Ok [])) place) found) ends_as stands heap

-- ---- a list of expressions

pub values_go : (p : PureParts) (Hs : HeldOutcomes) (os : Outcomes) (vs : List PureValue) (place : Place) (s : State) (k : List PureValue → Step) (end : Option KeptEnding) (c : Control) (h : Heap)
    → Hs ≡ Ok vs → Tells Hs os → Comes p None (k vs) end c h → Comes p (wide_at Hs place) (with_values os place s k) end c h
values_go p Hs os vs place s k end c h is told comes = rw is (rw (told_value Hs os vs told is) comes)

pub values_stop : (p : PureParts) (Hs : HeldOutcomes) (os : Outcomes) (fault : EvaluationFault) (place : Place) (s : State) (k : List PureValue → Step) (ending : KeptEnding) (c : Control) (h : Heap)
    → IsFault (held_fault fault) Hs → Tells Hs os → FaultEnds fault place ending → Stands p c s → s.heap ≡ h
    → Comes p (wide_at Hs place) (with_values os place s k) (Some ending) c h
values_stop p Hs os fault place s k ending c h is told ends_as stands heap =
    fault_stops p _ (with_values os place s k) fault Hs place s ending c h is
    (λ f found. (ap (λ G. wide_at G place) found, ap (λ r. with_values r place s k) (told_fault Hs os f told found)))
    (λ found. ap (λ G. wide_at G place) found) ends_as stands heap

-- ---- an expression and then a list

-- the first stops
pub first_stops : (p : PureParts) (H : HeldOutcome) (o : Outcome) (Hs : HeldOutcomes) (fault : EvaluationFault) (place : Place) (s : State) (k : PureValue → Step) (ending : KeptEnding) (c : Control) (h : Heap)
    → IsFault (held_fault fault) H → Tells H o → FaultEnds fault place ending → Stands p c s → s.heap ≡ h
    → Comes p (wide_at (both_held H Hs) place) (with_value o place s k) (Some ending) c h
first_stops p H o Hs fault place s k ending c h is told ends_as stands heap =
    fault_stops p _ (with_value o place s k) fault H place s ending c h is
    (λ f found. (ap (λ G. wide_at (both_held G Hs) place) found, ap (λ r. with_value r place s k) (told_fault H o f told found)))
    (λ found. ap (λ G. wide_at (both_held G Hs) place) found) ends_as stands heap

both_wide : (v : PureValue) (Hs : HeldOutcomes) → is_too_wide (both_held (Ok v) Hs) ≡ is_too_wide Hs
both_wide v (Ok vs) = refl
both_wide v (Err (of_table f)) = refl
both_wide v (Err too_wide) = refl

-- the first has a value, and what the rest comes to counts
pub first_goes : (p : PureParts) (H : HeldOutcome) (o : Outcome) (v : PureValue) (Hs : HeldOutcomes) (place : Place) (s : State) (k : PureValue → Step) (end : Option KeptEnding) (c : Control) (h : Heap)
    → H ≡ Ok v → Tells H o → Comes p (wide_at Hs place) (k v) end c h → Comes p (wide_at (both_held H Hs) place) (with_value o place s k) end c h
first_goes p H o v Hs place s k end c h is told comes = rw is (rw (told_value H o v told is) (rw (both_wide v Hs) comes))

-- ---- calls

pub proc_seen : (f : List ℕ) → value_view (values.Proc f) ≡ procedure f
proc_seen f = search (rules, the_lemmas)

pub symbol_seen : (n : ℕ) → value_view (values.Sym n) ≡ symbol n
symbol_seen n = search (rules, the_lemmas)

found_by : (q : PureProc) (x : List ℕ) (handler : Option ℕ) (args : List PureValue) (here : Place) (s : State) (b : Bool) → (length args == length q.params) ≡ b
    → enter_found (Some q) x handler args here s ≡ cond b (enter q x handler args s) (fails_with (text (codes "arity")) here s)
found_by q x handler args here s b is = ap (λ b. cond b (enter q x handler args s) (fails_with (text (codes "arity")) here s)) is

pub enters : (p : PureParts) (x : List ℕ) (handler : Option ℕ) (args : List PureValue) (here : Place) (s : State) (v : PureValue) (f : List ℕ) (q : PureProc)
    → v ≡ procedure f → find_proc p.procs f ≡ Some q → (length args == length q.params) ≡ true → enter_value p v x handler args here s ≡ enter q x handler args s
enters p x handler args here s v f q called found is = rw called (rw found (found_by q x handler args here s true is))

pub misses_arity : (p : PureParts) (x : List ℕ) (handler : Option ℕ) (args : List PureValue) (here : Place) (s : State) (v : PureValue) (f : List ℕ) (q : PureProc)
    → v ≡ procedure f → find_proc p.procs f ≡ Some q → (length args == length q.params) ≡ false → enter_value p v x handler args here s ≡ fails_with (text (codes "arity")) here s
misses_arity p x handler args here s v f q called found is = rw called (rw found (found_by q x handler args here s false is))

-- ---- actions

result_handed : (takes : Bool) (m : Actions) (a : List ℕ) (args : List PureValue) (s : State) → action_result takes m a args s ≡ m.act a (handed takes s) args s.heap
result_handed true m a args s = refl
result_handed false m a args s = refl

-- what an action leads to, where its outcome leads to this from every state for which the calls stand
pub acts : (p : PureParts) (m : Actions) (takes : Bool) (x a : List ℕ) (args : List PureValue) (here : Place) (s : State) (fresh : Option ℕ) (o : PureOutcome)
    (end : Option KeptEnding) (middle c : Control) (before after : Heap)
    → fresh ≡ handed takes s → s.heap ≡ before
    → o ≡ (m.act a fresh args before).outcome → after ≡ (m.act a fresh args before).heap
    → ((t : State) → Stands p middle t → Comes p None (after_action o x here t) end c t.heap)
    → Stands p middle (counted takes s)
    → Comes p None (do_action takes m x a args here s) end c after
acts p m takes x a args here s fresh o end middle c before after hands heap outcome changed goes stands =
    let result : action_result takes m a args s ≡ m.act a fresh args before = result_handed takes m a args s ∙ ap₂ (λ f h. m.act a f args h) (sym hands) heap in
    let t : State = record (counted takes s) { heap = (m.act a fresh args before).heap } in
    let there : Comes p None (after_action o x here t) end c t.heap = goes t (record { current = stands.current; callers = stands.callers; counter = stands.counter; draws = stands.draws }) in
    subst (λ r. Comes p None (acted r x here (counted takes s)) end c after) (sym result)
    (subst (λ w. Comes p None (after_action w x here t) end c after) outcome
    (subst (Comes p None (after_action o x here t) end c) (sym changed) there))

pub not_at_number : (p : PureParts) (r : Step) (end : Option KeptEnding) (c : Control) (h : Heap) → Comes p None r end c h → ¬ IsAtNumber end
not_at_number p (goes_on s) (Some (kept.Number place)) c h comes at = comes
not_at_number p (ends e) (Some (kept.Number place)) c h comes at = comes.0
not_at_number p r None c h comes at = at
not_at_number p r (Some (kept.Returned v)) c h comes at = at
not_at_number p r (Some (kept.Threw v place)) c h comes at = at
not_at_number p r (Some (kept.Failed v place)) c h comes at = at
not_at_number p r (Some kept.Vanished) c h comes at = at
not_at_number p r (Some (kept.NoInput k)) c h comes at = at
not_at_number p r (Some (kept.BadInput k)) c h comes at = at
