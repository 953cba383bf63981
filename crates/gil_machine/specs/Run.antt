-- Runs: the steps from the first command of a procedure, up to a bound. From Gillian, Part I (PLDI 2020).
use Rattle.std.specs.Prelude.{◌≡◌, ℕ, zero, suc, List, [], length, Option, Some, None}
use Rattle.std.specs.FinMap.{empty}
use Rattle.gil_values.specs.declared.places.Place.{Place}
use Rattle.gil_values.specs.Pure.{PureValue}
use Rattle.gil_values.specs.Symbols.{AreBelow}
use Rattle.gil_syntax.specs.Pure.{PureProc, PureParts}
use Rattle.gil_syntax.specs.Programs.{find_proc}
use Rattle.mem_model.specs.declared.keys.MemoryName.{MemoryName}
use Rattle.mem_model.specs.Heaps.{Heap, IsHeapOf, IsHeapBelow}
use Rattle.mem_model.specs.Actions.{Actions}
use Rattle.gil_machine.specs.State.{State, End, failed, cut, IsFailed, Step, goes_on, ends, end_at, told_end}
use Rattle.gil_machine.specs.Step.{first_frame, step}

abbrev pub after : Step → (State → End) → End
after (goes_on s) go_on = go_on s
after (ends e) go_on = e

module _ (p : PureParts) (m : Actions) (inputs : List PureValue) where
  -- at most so many steps from a state
  abbrev pub run : ℕ → State → End
  run zero s = end_at s cut
  run (suc n) s = after (step p m inputs s) (run n)

abbrev pub and_then : Step → (State → Option State) → Option State
and_then (goes_on s) go_on = go_on s
and_then (ends e) go_on = None

module _ (p : PureParts) (m : Actions) (inputs : List PureValue) where
  -- the state after so many steps, where none of them was an end
  abbrev pub reached : ℕ → State → Option State
  reached zero s = Some s
  reached (suc n) s = and_then (step p m inputs s) (reached n)

abbrev pub params_of : Option PureProc → List (List ℕ)
params_of (Some q) = q.params
params_of None = []

-- the state in which a procedure begins
abbrev pub start : PureParts → List ℕ → List PureValue → Heap → ℕ → State
start p f args h counter = record {
  current = first_frame f (params_of (find_proc p.procs f)) args;
  callers = [];
  heap = h;
  counter = counter;
  draws = 0;
}

-- The end of the run of the procedure f within n steps: `cut` where n steps were done without another end.
abbrev pub run_of : PureParts → Actions → List ℕ → List PureValue → Heap → ℕ → List PureValue → ℕ → End
run_of p m f args h counter inputs n = run p m inputs n (start p f args h counter)

-- A start is proper where the procedure takes that many arguments, the heap is one of the memory, and each symbol of
-- the arguments and of the heap is below the counter.
pub record IsProperStart (p : PureParts) (memory : MemoryName) (f : List ℕ) (args : List PureValue) (h : Heap) (counter : ℕ) : Type 0 where
  pub procedure : (q : PureProc) × ((find_proc p.procs f ≡ Some q) × (length q.params ≡ length args))
  pub heap : IsHeapOf memory h
  pub arguments_below : AreBelow counter args
  pub heap_below : IsHeapBelow counter h

-- the same as it is told: a throw that no handler takes is a failure
abbrev pub told_run_of : PureParts → Actions → List ℕ → List PureValue → Heap → ℕ → List PureValue → ℕ → End
told_run_of p m f args h counter inputs n = told_end (run_of p m f args h counter inputs n)

-- the run of a procedure without parameters from the empty heap, as a test tells it
abbrev pub test_run : PureParts → Actions → List ℕ → List PureValue → ℕ → End
test_run p m f inputs n = told_run_of p m f [] empty 0 inputs n

-- the procedure is one of the program, and has no parameter
abbrev pub IsEntry : PureParts → List ℕ → Type 0
IsEntry p f = (q : PureProc) × ((find_proc p.procs f ≡ Some q) × (q.params ≡ []))

-- A bug: the procedure may be run, and with these inputs its run fails with this value at this place within n steps, or
-- throws it there and no handler takes it, and draws each of them.
pub record IsBug (p : PureParts) (m : Actions) (f : List ℕ) (n : ℕ) (inputs : List PureValue) (v : PureValue) (place : Place) : Type 0 where
  pub entry : IsEntry p f
  pub fails : (test_run p m f inputs n).ending ≡ failed v place
  pub draws_each : (test_run p m f inputs n).draws ≡ length inputs

-- Clean: the procedure may be run, and no inputs make a run of it of at most n steps fail or end with a throw.
pub record IsClean (p : PureParts) (m : Actions) (f : List ℕ) (n : ℕ) : Type 0 where
  pub entry : IsEntry p f
  pub never_fails : (inputs : List PureValue) → ¬ IsFailed (test_run p m f inputs n).ending
