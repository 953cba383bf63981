-- Runs beside a rest of the heap.
use Rattle.std.specs.Prelude.{◌≡◌, ◌⊎◌, ℕ, ◌<◌, List, Some, None, IsTrue}
use Rattle.gil_values.specs.Pure.{PureValue}
use Rattle.gil_syntax.specs.Pure.{PureParts}
use Rattle.gil_syntax.specs.WellMade.{is_well_made}
use Rattle.mem_model.specs.declared.keys.Key.{Key}
use Rattle.mem_model.specs.declared.keys.MemoryName.{MemoryName}
use Rattle.mem_model.specs.Heaps.{Heap, IsCompatible, IsHeapOf}
use Rattle.mem_model.specs.Actions.{Actions, IsMemory}
use Rattle.gil_machine.specs.State.{State, IsFailed}
use Rattle.gil_machine.specs.Beside.{beside, end_beside}
use Rattle.gil_machine.specs.Choices.{miss_at}
use Rattle.gil_machine.specs.Proper.{IsProperState}
use Rattle.gil_machine.specs.Run.{run, reached}

-- a state of the memory beside a rest of the heap: no key is in both, and together they are a proper state
pub record StandsBeside (memory : MemoryName) (s : State) (rest : Heap) : Type 0 where
  pub heap : IsHeapOf memory s.heap
  pub rest_heap : IsHeapOf memory rest
  pub compatible : IsCompatible s.heap rest
  pub proper : IsProperState memory (beside rest s)

-- none of the states at which the run makes its steps misses a key
abbrev pub MissesNothing : PureParts → Actions → List PureValue → ℕ → State → Type 0
MissesNothing p m inputs n s = (k : ℕ) (t : State) → k < n → reached p m inputs k s ≡ Some t → miss_at p m t ≡ None

-- the run comes to a state at which it misses a key before so many steps are done, and beside the rest it comes to that state
-- beside the rest
pub record MissesBeside (p : PureParts) (memory : MemoryName) (m : Actions) (inputs : List PureValue) (n : ℕ) (s : State) (rest : Heap)
    : Type 0 where
  pub steps : ℕ
  pub within : steps < n
  pub state : State
  pub reached_alone : reached p m inputs steps s ≡ Some state
  pub key : Key
  pub misses : miss_at p m state ≡ Some key
  pub reached_beside : reached p m inputs steps (beside rest s) ≡ Some (beside rest state)
  pub stands : StandsBeside memory state rest

-- within so many steps the run misses no key, and beside the rest it has the same end, beside the rest
pub record EndsBeside (p : PureParts) (m : Actions) (inputs : List PureValue) (n : ℕ) (s : State) (rest : Heap) : Type 0 where
  pub misses_nothing : MissesNothing p m inputs n s
  pub same : run p m inputs n (beside rest s) ≡ end_beside rest (run p m inputs n s)
  pub compatible : IsCompatible (run p m inputs n s).heap rest

-- the same program, memory, inputs, state and rest for each law
abbrev pub OfRuns : (PureParts → MemoryName → Actions → List PureValue → State → Heap → Type 0) → Type 0
OfRuns law =
    (p : PureParts) (memory : MemoryName) (m : Actions) (inputs : List PureValue) (s : State) (rest : Heap)
    → IsTrue (is_well_made p) → IsMemory memory m → StandsBeside memory s rest → law p memory m inputs s rest

-- What a run comes to without the rest, it comes to beside it, and stands beside it there: had it missed a key before, it would have
-- ended there.
abbrev pub StatesAreLocal : Type 0
StatesAreLocal = OfRuns (λ p memory m inputs s rest.
    (k : ℕ) (t : State) → reached p m inputs k s ≡ Some t
    → (reached p m inputs k (beside rest s) ≡ Some (beside rest t)) × StandsBeside memory t rest)

-- Whatever the bound, either the run misses a key within it, and is the same up to there, or its end is the same.
abbrev pub RunsAreLocal : Type 0
RunsAreLocal = OfRuns (λ p memory m inputs s rest.
    (n : ℕ) → MissesBeside p memory m inputs n s rest ⊎ EndsBeside p m inputs n s rest)

-- So a run that misses nothing has the same end.
abbrev pub RunsWithoutAMissAreLocal : Type 0
RunsWithoutAMissAreLocal = OfRuns (λ p memory m inputs s rest.
    (n : ℕ) → MissesNothing p m inputs n s → EndsBeside p m inputs n s rest)

-- And as a miss is a failure, so has one that doesn't fail.
abbrev pub RunsWithoutAFailureAreLocal : Type 0
RunsWithoutAFailureAreLocal = OfRuns (λ p memory m inputs s rest.
    (n : ℕ) → ¬ IsFailed (run p m inputs n s).ending → EndsBeside p m inputs n s rest)
