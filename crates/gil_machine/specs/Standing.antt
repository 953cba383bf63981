-- What the code's machine stands for: a state, up to how its stores are kept.
use Rattle.std.specs.Prelude.{◌≡◌, ℕ, ◌+◌, ◌≤◌, ◌<◌, length, List, [], ◌∷◌, reverse, if◌then◌else◌, Option, Some, None, ⊤}
use Rattle.std.specs.Option.{IfSome, option_map}
use Rattle.std.proofs.Common.{Box, Global}
use Rattle.gil_values.specs.declared.places.Place.{Place}
use Rattle.gil_values.specs.Pure.{PureValue, text}
use Rattle.gil_values.specs.Operators.{wrong_kind, zero_divisor, out_of_range, unset_variable, fault_text}
use Rattle.gil_values.specs.View.{value_view}
use Rattle.gil_syntax.specs.Pure.{PureCommand, PureParts}
use Rattle.gil_syntax.specs.Programs.{find_proc}
use Rattle.gil_syntax.specs.View.{proc_view}
use Rattle.mem_model.specs.declared.keys.MemoryName.{MemoryName}
use Rattle.mem_model.specs.Heaps.{Heap}
use Rattle.mem_model.specs.Actions.{Actions}
use Rattle.gil_machine.specs.declared.control.Control.{Control}
use Rattle.gil_machine.specs.declared.control.Frame.{Frame as KeptFrame}
use Rattle.gil_machine.specs.declared.endings.Ending.{Ending as KeptEnding}
use Rattle.gil_machine.specs.declared.endings.Ending.TheVariants as kept
use Rattle.gil_machine.specs.declared.faults.EvaluationFault.{EvaluationFault}
use Rattle.gil_machine.specs.declared.faults.EvaluationFault.TheVariants as faults
use Rattle.gil_machine.specs.declared.running.End.{End as KeptEnd}
use Rattle.gil_machine.specs.declared.running.End.TheVariants.{Returned, Threw, Failed, Vanished, Cut, NoInput, BadInput, Number, Memory}
use Rattle.gil_machine.specs.Held.{evaluate_all_held, is_too_wide, evaluated_by, HeldEnd, ended, number, held_run}
use Rattle.gil_machine.specs.Kept.{Keeps}
use Rattle.gil_machine.specs.ResolvedWhole.{IsResolvedProc, proc_slots}
use Rattle.gil_machine.specs.SlotNames.{Names, name_at}
use Rattle.gil_machine.specs.StoreView.{store_view}
use Rattle.gil_machine.specs.State.{Frame, State, Ending, returned, threw, failed, vanished, no_input, bad_input, cut, End, Step, goes_on, ends}
use Rattle.gil_machine.specs.Step.{Handling, do_command}
use Rattle.gil_machine.specs.Proper.{IsProperState}

-- the names of the slots of a call
abbrev pub frame_slots : KeptFrame → Names
frame_slots f = proc_slots f.proc.now

abbrev pub slots_of : Control → Names
slots_of c = frame_slots c.current

-- the frame is a call of its procedure, at the same command, whose store keeps the same values
pub record FrameStands (p : PureParts) (f : KeptFrame) (g : Frame) : Type 0 where
  pub name : g.procedure ≡ f.proc.now.proc.now.name
  pub procedure : find_proc p.procs g.procedure ≡ Some (proc_view f.proc.now.proc.now)
  pub next : g.next ≡ f.next
  pub store : Keeps (frame_slots f) (store_view f.store) g.store
  pub waits : g.waits ≡ option_map (name_at (frame_slots f)) f.waits
  pub handler : g.handler ≡ f.handler
  pub placed : IfSome f.waits (λ slot. slot < length (frame_slots f))
  pub resolved : IsResolvedProc f.proc.now

-- frame for frame
abbrev pub FramesStand : PureParts → List KeptFrame → List Frame → Type 0
FramesStand p [] [] = Unit {0}
FramesStand p (f ∷ fs) (g ∷ gs) = FrameStands p f g × FramesStand p fs gs
FramesStand p _ _ = ⊥

-- the frame that takes a throw and those below it
abbrev pub HandlingStands : PureParts → Option (ℕ × KeptFrame) → List KeptFrame → Option Handling → Type 0
HandlingStands p (Some taken) fs (Some h) = (h.label ≡ taken.0) × FrameStands p taken.1 h.frame × FramesStand p fs h.callers
HandlingStands p (Some taken) fs None = ⊥
HandlingStands p None fs (Some h) = ⊥
HandlingStands p None fs None = Unit {0}

-- All but the heap. The code's callers stand with the latest last.
pub record Stands (p : PureParts) (c : Control) (s : State) : Type 0 where
  pub current : FrameStands p c.current s.current
  pub callers : FramesStand p (reverse c.callers.items) s.callers
  pub counter : s.counter ≡ c.counter
  pub draws : s.draws ≡ c.draws

-- a state for which the code's machine and a heap of this memory stand, and which is proper
pub record IsStanding (p : PureParts) (memory : MemoryName) (c : Control) (h : Heap) : Type 0 where
  pub state : State
  pub stands : Stands p c state
  pub heap : state.heap ≡ h
  pub proper : IsProperState memory state

-- the code's ending is that of a run
abbrev pub EndsAs : KeptEnding → Ending → Type 0
EndsAs (kept.Returned v) e = e ≡ returned (value_view v)
EndsAs (kept.Threw v place) e = e ≡ threw (value_view v) place
EndsAs (kept.Failed v place) e = e ≡ failed (value_view v) place
EndsAs kept.Vanished e = e ≡ vanished
EndsAs (kept.NoInput k) e = e ≡ no_input k
EndsAs (kept.BadInput k) e = e ≡ bad_input k
EndsAs (kept.Number place) e = ⊥

-- What the code comes to with a command, where the command leads to this step and a number that can't be held may stand
-- there: that number, the next state, or the end, and this heap.
abbrev pub Comes : PureParts → Option Place → Step → Option KeptEnding → Control → Heap → Type 0
Comes p (Some place) step (Some (kept.Number other)) c h = other ≡ place
Comes p (Some place) step _ c h = ⊥
Comes p None (goes_on s) None c h = Stands p c s × (s.heap ≡ h)
Comes p None (goes_on s) (Some ending) c h = ⊥
Comes p None (ends e) None c h = ⊥
Comes p None (ends e) (Some ending) c h = EndsAs ending e.ending × (e.heap ≡ h) × (e.counter ≡ c.counter) × (e.draws ≡ c.draws)

-- the place of a command of the call that runs
abbrev pub place_of : Control → ℕ → Place
place_of c at = record { proc = c.current.proc.now.proc.now.name; at = at }

abbrev pub unboxed : Option (Box KeptEnding Global) → Option KeptEnding
unboxed end = option_map (λ ending. ending.value) end

-- how a run ends at a fault of evaluation at this place
abbrev pub FaultEnds : EvaluationFault → Place → KeptEnding → Type 0
FaultEnds faults.WrongKind place ending = EndsAs ending (failed (text (fault_text wrong_kind)) place)
FaultEnds faults.Zero place ending = EndsAs ending (failed (text (fault_text zero_divisor)) place)
FaultEnds faults.Range place ending = EndsAs ending (failed (text (fault_text out_of_range)) place)
FaultEnds faults.Unset place ending = EndsAs ending (failed (text (fault_text unset_variable)) place)
FaultEnds faults.Number place ending = ending ≡ kept.Number place
FaultEnds faults.Memory place ending = ⊥

-- at most one symbol was taken, and one draw made
pub record GrowsByOne (old new : Control) : Type 0 where
  pub counter : new.counter ≤ old.counter + 1
  pub draws : new.draws ≤ old.draws + 1

-- the place, where the first fault of the expressions that a command evaluates is a result that leaves 128 bits
abbrev pub number_here : PureCommand → Place → State → Option Place
number_here command here s = if is_too_wide (evaluate_all_held (evaluated_by command) s.current.store) then Some here else None

-- what the code comes to with a command at a place, from every state for which the calls and the heap before it stand
abbrev pub Does : PureParts → Actions → List PureValue → PureCommand → Place → Control → Heap → Option KeptEnding → Control → Heap → Type 0
Does p m inputs command here old before end new after =
    (s : State) → Stands p old s → s.heap ≡ before
    → Comes p (number_here command here s) (do_command p m inputs command here s) end new after

-- the same where the heap stays
abbrev pub DoesBeside : PureParts → Actions → List PureValue → PureCommand → Place → Control → Option KeptEnding → Control → Type 0
DoesBeside p m inputs command here old end new = (h : Heap) → Does p m inputs command here old h end new h

-- the same in every program, with any memory and any inputs
abbrev pub DoesAnywhere : PureCommand → Place → Control → Option KeptEnding → Control → Type 0
DoesAnywhere command here old end new = (p : PureParts) (m : Actions) (inputs : List PureValue) → DoesBeside p m inputs command here old end new

-- what the code comes to where a state goes on by this step, in which no number is too wide
abbrev pub LeadsTo : PureParts → Control → (State → Step) → Option KeptEnding → Control → Type 0
LeadsTo p old step end new = (s : State) → Stands p old s → Comes p None (step s) end new s.heap

-- in every program
abbrev pub LeadsAnywhere : Control → (State → Step) → Option KeptEnding → Control → Type 0
LeadsAnywhere old step end new = (p : PureParts) → LeadsTo p old step end new

-- a result left 128 bits
abbrev pub IsAtNumber : Option KeptEnding → Type 0
IsAtNumber (Some (kept.Number place)) = ⊤
IsAtNumber (Some (kept.Returned v)) = ⊥
IsAtNumber (Some (kept.Threw v place)) = ⊥
IsAtNumber (Some (kept.Failed v place)) = ⊥
IsAtNumber (Some kept.Vanished) = ⊥
IsAtNumber (Some (kept.NoInput k)) = ⊥
IsAtNumber (Some (kept.BadInput k)) = ⊥
IsAtNumber None = ⊥

-- A run under way: the code stands for a proper state, from which so many steps lead to this end.
pub record IsUnderWay (p : PureParts) (memory : MemoryName) (m : Actions) (inputs : List PureValue) (c : Control) (h : Heap)
    (steps : ℕ) (end : HeldEnd) : Type 0 where
  pub standing : IsStanding p memory c h
  pub rest : held_run p m inputs steps standing.state ≡ end

-- the run ended so, with this heap
abbrev pub EndedAs : Ending → Heap → HeldEnd → Type 0
EndedAs ending h (ended e) = (e.ending ≡ ending) × (e.heap ≡ h)
EndedAs ending h (number place g) = ⊥

-- an answer is the end of the run; want of memory says nothing of it
abbrev pub IsEndOf : {M : Type 0} → (M → Heap) → KeptEnd M → HeldEnd → Type 0
IsEndOf heap (Returned v m) e = EndedAs (returned (value_view v)) (heap m) e
IsEndOf heap (Threw v place m) e = EndedAs (threw (value_view v) place) (heap m) e
IsEndOf heap (Failed v place m) e = EndedAs (failed (value_view v) place) (heap m) e
IsEndOf heap (Vanished m) e = EndedAs vanished (heap m) e
IsEndOf heap (Cut m) e = EndedAs cut (heap m) e
IsEndOf heap (NoInput k m) e = EndedAs (no_input k) (heap m) e
IsEndOf heap (BadInput k m) e = EndedAs (bad_input k) (heap m) e
IsEndOf heap (Number place m) e = e ≡ number place (heap m)
IsEndOf heap Memory e = ⊤

-- an ending and the memory that stands then: whatever run ends as the ending says, with that heap, has this answer
abbrev pub HasMemory : {M : Type 0} → (M → Heap) → KeptEnding → M → KeptEnd M → Type 0
HasMemory heap (kept.Number place) m answer = IsEndOf heap answer (number place (heap m))
HasMemory heap ending m answer = (e : End) → EndsAs ending e.ending → e.heap ≡ heap m → IsEndOf heap answer (ended e)
