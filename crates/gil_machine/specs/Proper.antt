-- Proper states: every symbol is below the counter, so the counter's symbol is new. Uninterpreted symbols are those of
-- Gillian, Part I (PLDI 2020).
use Rattle.std.specs.Prelude.{◌≡◌, ℕ, List, Some, All, ⊤}
use Rattle.gil_values.specs.Pure.{PureValue}
use Rattle.gil_values.specs.Symbols.{IsBelow}
use Rattle.gil_syntax.specs.Evaluation.{Store, value_of}
use Rattle.mem_model.specs.declared.keys.MemoryName.{MemoryName}
use Rattle.mem_model.specs.Heaps.{IsHeapOf, IsHeapBelow}
use Rattle.gil_machine.specs.State.{Frame, State, Ending, returned, threw, failed, vanished, no_input, bad_input, cut, End, Step, goes_on, ends}

abbrev pub IsStoreBelow : ℕ → Store → Type 0
IsStoreBelow counter s = (x : List ℕ) (v : PureValue) → value_of s x ≡ Some v → IsBelow counter v

abbrev pub IsFrameBelow : ℕ → Frame → Type 0
IsFrameBelow counter frame = IsStoreBelow counter frame.store

-- the heap is one of the memory, and each symbol of the heap and of the stores is below the counter
pub record IsProperState (memory : MemoryName) (s : State) : Type 0 where
  pub heap : IsHeapOf memory s.heap
  pub heap_below : IsHeapBelow s.counter s.heap
  pub current_below : IsFrameBelow s.counter s.current
  pub callers_below : All (IsFrameBelow s.counter) s.callers

abbrev pub IsEndingBelow : ℕ → Ending → Type 0
IsEndingBelow counter (returned v) = IsBelow counter v
IsEndingBelow counter (threw v place) = IsBelow counter v
IsEndingBelow counter (failed v place) = IsBelow counter v
IsEndingBelow counter vanished = ⊤
IsEndingBelow counter (no_input k) = ⊤
IsEndingBelow counter (bad_input k) = ⊤
IsEndingBelow counter cut = ⊤

pub record IsProperEnd (memory : MemoryName) (e : End) : Type 0 where
  pub heap : IsHeapOf memory e.heap
  pub heap_below : IsHeapBelow e.counter e.heap
  pub ending_below : IsEndingBelow e.counter e.ending

abbrev pub IsProperStep : MemoryName → Step → Type 0
IsProperStep memory (goes_on s) = IsProperState memory s
IsProperStep memory (ends e) = IsProperEnd memory e
