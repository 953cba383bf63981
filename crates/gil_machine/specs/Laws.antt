-- What holds of every run, whatever the program and its memory.
use Rattle.std.specs.Prelude.{◌≡◌, ◌↔◌, ℕ, suc, ◌+◌, ◌<◌, ◌≤◌, List, [], Bool, true, false, Option, Some, None, Result, Ok, Err, slice_get, IsSome, IsTrue, codes}
use Rattle.std.specs.List.{list_all}
use Rattle.std.specs.FinMap.{empty}
use Rattle.gil_values.specs.declared.places.Place.{Place}
use Rattle.gil_values.specs.Operators.{Fault, Outcome}
use Rattle.gil_values.specs.Pure.{PureValue, text}
use Rattle.gil_values.specs.Symbols.{OccursIn}
use Rattle.gil_syntax.specs.Pure.{PureExpr, PureProc, PureParts}
use Rattle.gil_syntax.specs.Evaluation.{Store, value_of, evaluate, evaluate_all}
use Rattle.gil_syntax.specs.Programs.{find_proc}
use Rattle.gil_syntax.specs.Valid.{IsValid}
use Rattle.gil_syntax.specs.WellMade.{is_well_made, is_well_made_expr}
use Rattle.mem_model.specs.declared.keys.MemoryName.{MemoryName}
use Rattle.mem_model.specs.declared.keys.Key.{Key}
use Rattle.mem_model.specs.Heaps.{Heap, IsCompatible, IsHeapOf, OccursInHeap}
use Rattle.mem_model.specs.Actions.{Actions, MayAct, IsMemory}
use Rattle.gil_machine.specs.State.{Frame, State, End, failed, cut, IsOver, told_end, ends}
use Rattle.gil_machine.specs.Above.{above, at_end, ending_above, step_above}
use Rattle.gil_machine.specs.Beside.{beside, IsSameStepBeside}
use Rattle.gil_machine.specs.Choices.{choice_at, miss_at}
use Rattle.gil_machine.specs.Held.{HeldFault, of_table, too_wide, evaluate_held, number_at, ended, number, held_run}
use Rattle.gil_machine.specs.Later.{later, later_end, later_step}
use Rattle.gil_machine.specs.Step.{step}
use Rattle.gil_machine.specs.Run.{after, run, reached, start, IsProperStart, IsBug, IsClean}
use Rattle.gil_machine.specs.Placed.{IsPlaced, IsPlacedStep}
use Rattle.gil_machine.specs.Proper.{IsProperState, IsProperEnd, IsProperStep}

-- a run that is over is over with any larger bound, with the same end
abbrev pub StaysOver : Type 0
StaysOver =
    (p : PureParts) (m : Actions) (inputs : List PureValue) (n k : ℕ) (s : State)
    → n ≤ k → IsOver (run p m inputs n s).ending → run p m inputs k s ≡ run p m inputs n s

-- a run is cut exactly where as many steps as its bound were done without an end
abbrev pub IsCutAtItsBound : Type 0
IsCutAtItsBound =
    (p : PureParts) (m : Actions) (inputs : List PureValue) (n : ℕ) (s : State)
    → ((run p m inputs n s).ending ≡ cut) ↔ IsSome (reached p m inputs n s)

-- the same of the run as it is told
abbrev pub StaysOverAsTold : Type 0
StaysOverAsTold =
    (p : PureParts) (m : Actions) (inputs : List PureValue) (n k : ℕ) (s : State)
    → n ≤ k → IsOver (told_end (run p m inputs n s)).ending → told_end (run p m inputs k s) ≡ told_end (run p m inputs n s)

abbrev pub IsCutAsTold : Type 0
IsCutAsTold =
    (p : PureParts) (m : Actions) (inputs : List PureValue) (n : ℕ) (s : State)
    → ((told_end (run p m inputs n s)).ending ≡ cut) ↔ IsSome (reached p m inputs n s)

-- an end depends only on the inputs that were drawn: where another list has the same ones there, it is the same
abbrev pub DependsOnDrawnInputs : Type 0
DependsOnDrawnInputs =
    (p : PureParts) (m : Actions) (inputs others : List PureValue) (n : ℕ) (s : State)
    → ((i : ℕ) → i < (run p m inputs n s).draws → slice_get others i ≡ slice_get inputs i)
    → run p m others n s ≡ run p m inputs n s

-- A proper state goes on to a proper state or ends in a proper end, and a proper start is one.
abbrev pub StaysProper : Type 0
StaysProper =
    (p : PureParts) (memory : MemoryName) (m : Actions) (inputs : List PureValue) (s : State)
    → IsTrue (is_well_made p) → IsMemory memory m → IsProperState memory s → IsProperStep memory (step p m inputs s)

abbrev pub StartsProper : Type 0
StartsProper =
    (p : PureParts) (memory : MemoryName) (f : List ℕ) (args : List PureValue) (h : Heap) (counter : ℕ)
    → IsProperStart p memory f args h counter → IsProperState memory (start p f args h counter)

abbrev pub EndsProper : Type 0
EndsProper =
    (p : PureParts) (memory : MemoryName) (m : Actions) (inputs : List PureValue) (n : ℕ) (s : State)
    → IsTrue (is_well_made p) → IsMemory memory m → IsProperState memory s → IsProperEnd memory (run p m inputs n s)

abbrev pub EndsProperAsTold : Type 0
EndsProperAsTold =
    (p : PureParts) (memory : MemoryName) (m : Actions) (inputs : List PureValue) (n : ℕ) (s : State)
    → IsTrue (is_well_made p) → IsMemory memory m → IsProperState memory s → IsProperEnd memory (told_end (run p m inputs n s))

-- In a proper state the counter's symbol is new: it occurs neither in the heap nor in the store of the current frame.
abbrev pub CounterIsNew : Type 0
CounterIsNew =
    (memory : MemoryName) (s : State) → IsProperState memory s
    → ¬ OccursInHeap s.counter s.heap
    × ((x : List ℕ) (v : PureValue) → value_of s.current.store x ≡ Some v → ¬ OccursIn s.counter v)

-- the symbol that an action is handed: the counter's, where it takes one
abbrev pub handed : Bool → State → Option ℕ
handed true s = Some s.counter
handed false s = None

-- So an action may be asked with it wherever it is reached, on the values of its arguments.
abbrev pub MayActWhereReached : Type 0
MayActWhereReached =
    (memory : MemoryName) (m : Actions) (s : State) (action : List ℕ) (es : List PureExpr) (args : List PureValue)
    → IsProperState memory s → IsTrue (list_all is_well_made_expr es) → evaluate_all es s.current.store ≡ Ok args
    → MayAct m action (handed (m.takes_symbol action) s) args s.heap

-- a test of a procedure without parameters begins in a proper start, whatever the memory
abbrev pub TestsStartProper : Type 0
TestsStartProper =
    (p : PureParts) (memory : MemoryName) (f : List ℕ) (q : PureProc)
    → find_proc p.procs f ≡ Some q → q.params ≡ [] → IsProperStart p memory f [] empty 0

-- a bug within a bound is one within any larger bound
abbrev pub BugsStay : Type 0
BugsStay =
    (p : PureParts) (m : Actions) (f : List ℕ) (n k : ℕ) (inputs : List PureValue) (v : PureValue) (place : Place)
    → n ≤ k → IsBug p m f n inputs v place → IsBug p m f k inputs v place

-- what is clean within a bound is clean within any smaller one
abbrev pub CleanIsCleanBelow : Type 0
CleanIsCleanBelow = (p : PureParts) (m : Actions) (f : List ℕ) (n k : ℕ) → n ≤ k → IsClean p m f k → IsClean p m f n

-- what is clean has no bug
abbrev pub CleanHasNoBug : Type 0
CleanHasNoBug =
    (p : PureParts) (m : Actions) (f : List ℕ) (n : ℕ) (inputs : List PureValue) (v : PureValue) (place : Place)
    → IsClean p m f n → ¬ IsBug p m f n inputs v place

-- In a valid program a run stands at a command until it ends: it begins at one, and no step leaves them.
abbrev pub StaysPlaced : Type 0
StaysPlaced =
    (p : PureParts) (m : Actions) (inputs : List PureValue) (s : State)
    → IsValid p → IsPlaced p s → IsPlacedStep p (step p m inputs s)

abbrev pub StartsPlaced : Type 0
StartsPlaced =
    (p : PureParts) (f : List ℕ) (q : PureProc) (args : List PureValue) (h : Heap) (counter : ℕ)
    → IsValid p → find_proc p.procs f ≡ Some q → IsPlaced p (start p f args h counter)

-- A step is local: where it misses no key, it is the same beside any compatible rest, which it keeps.
abbrev pub StepsAreLocal : Type 0
StepsAreLocal =
    (p : PureParts) (memory : MemoryName) (m : Actions) (inputs : List PureValue) (s : State) (rest : Heap)
    → IsTrue (is_well_made p) → IsMemory memory m
    → IsHeapOf memory s.heap → IsHeapOf memory rest → IsCompatible s.heap rest → IsProperState memory (beside rest s)
    → miss_at p m s ≡ None
    → IsSameStepBeside rest (step p m inputs s) (step p m inputs (beside rest s))

-- Frames below don't look at what runs above them: a state makes the same steps there, until its last frame returns or throws.
abbrev pub StepsAboveFrames : Type 0
StepsAboveFrames =
    (p : PureParts) (m : Actions) (inputs : List PureValue) (s : State) (frames : List Frame)
    → step p m inputs (above frames s) ≡ step_above frames s (step p m inputs s)

-- so it comes to the same states
abbrev pub ReachesAboveFrames : Type 0
ReachesAboveFrames =
    (p : PureParts) (m : Actions) (inputs : List PureValue) (k : ℕ) (s t : State) (frames : List Frame)
    → reached p m inputs k s ≡ Some t → reached p m inputs k (above frames s) ≡ Some (above frames t)

-- and where it has returned or thrown, the run goes on in the frames below
abbrev pub EndsAboveFrames : Type 0
EndsAboveFrames =
    (p : PureParts) (m : Actions) (inputs : List PureValue) (k n : ℕ) (s t : State) (e : End) (frames : List Frame)
    → reached p m inputs k s ≡ Some t → step p m inputs t ≡ ends e
    → run p m inputs (k + suc n) (above frames s) ≡ after (ending_above frames e.ending (at_end e t)) (run p m inputs n)

-- Draws that were made before don't count: where the next input is the same, so is the step, but for the numbers of the draws.
abbrev pub StepsAreSameLater : Type 0
StepsAreSameLater =
    (p : PureParts) (m : Actions) (inputs others : List PureValue) (d : ℕ) (s : State)
    → slice_get others (d + s.draws) ≡ slice_get inputs s.draws
    → step p m others (later d s) ≡ later_step d (step p m inputs s)

-- and where all inputs from there on are the same, so is the run
abbrev pub RunsAreSameLater : Type 0
RunsAreSameLater =
    (p : PureParts) (m : Actions) (inputs others : List PureValue) (d n : ℕ) (s : State)
    → ((i : ℕ) → slice_get others (d + i) ≡ slice_get inputs i)
    → run p m others n (later d s) ≡ later_end d (run p m inputs n s)

-- A missed key is what the machine fails with, and what is chosen there.
abbrev pub MissesFail : Type 0
MissesFail =
    (p : PureParts) (m : Actions) (inputs : List PureValue) (s : State) (k : Key)
    → miss_at p m s ≡ Some k
    → (choice_at p m s ≡ Some 2)
    × ((e : End) × ((place : Place) × ((step p m inputs s ≡ ends e) × (e.ending ≡ failed (text (codes "missing")) place))))

-- A run whose numbers can be held is the run that stands.
abbrev pub HeldRunsAreRuns : Type 0
HeldRunsAreRuns =
    (p : PureParts) (m : Actions) (inputs : List PureValue) (n : ℕ) (s : State) (e : End)
    → held_run p m inputs n s ≡ ended e → run p m inputs n s ≡ e

-- the state is reached within the bound and before the run has ended, and there, for the first time, a result leaves 128 bits
pub record IsFirstNumber (p : PureParts) (m : Actions) (inputs : List PureValue) (n : ℕ) (s : State) (place : Place) (h : Heap)
    : Type 0 where
  pub steps : ℕ
  pub within : steps < n
  pub state : State
  pub reached_there : reached p m inputs steps s ≡ Some state
  pub at_place : number_at p state ≡ Some place
  pub heap : state.heap ≡ h
  pub none_before : (k : ℕ) (t : State) → k < steps → reached p m inputs k s ≡ Some t → number_at p t ≡ None

-- A run comes to a number exactly there.
pub record NumbersAreFirst : Type 0 where
  pub only : (p : PureParts) (m : Actions) (inputs : List PureValue) (n : ℕ) (s : State) (place : Place) (h : Heap)
      → held_run p m inputs n s ≡ number place h → IsFirstNumber p m inputs n s place h
  pub each : (p : PureParts) (m : Actions) (inputs : List PureValue) (n : ℕ) (s : State) (place : Place) (h : Heap)
      → IsFirstNumber p m inputs n s place h → held_run p m inputs n s ≡ number place h

-- A result that leaves 128 bits is the only fault that evaluation gains: without it the value or the fault is the table's.
abbrev pub as_table : {X : Type 0} → Result X HeldFault → Option (Result X Fault)
as_table (Ok x) = Some (Ok x)
as_table (Err (of_table fault)) = Some (Err fault)
as_table (Err too_wide) = None

abbrev pub HeldValuesAreValues : Type 0
HeldValuesAreValues = (e : PureExpr) (s : Store) (r : Outcome) → as_table (evaluate_held e s) ≡ Some r → evaluate e s ≡ r
