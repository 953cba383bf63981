-- What a compiled program has of its source: from every proper start, with any inputs, the same ends.
use Rattle.std.specs.Prelude.{◌↔◌, ℕ, List}
use Rattle.gil_values.specs.Pure.{PureValue}
use Rattle.gil_syntax.specs.Pure.{PureParts}
use Rattle.mem_model.specs.declared.keys.MemoryName.{MemoryName}
use Rattle.mem_model.specs.Actions.{Actions}
use Rattle.mem_model.specs.Heaps.{Heap}
use Rattle.gil_machine.specs.Run.{run_of, IsProperStart as IsProperStartOfRun}
use Rattle.source_language.specs.Calls.{Bodies, IsProperStart, source_end}
use Rattle.source_language.specs.Pure.{PureFunction, PureSource}
use Rattle.source_language.specs.SameEnds.{AreSameEnds}

-- over heaps of a memory with these actions, where bodies come to what is given, from the inputs
pub record HasSameEnds {B : Type 0} (memory : MemoryName) (m : Actions) (body : List PureValue → Bodies B) (source : PureSource (PureFunction B))
    (p : PureParts) : Type 0 where
  pub starts : (f : List ℕ) (args : List PureValue) (h : Heap) (counter : ℕ)
      → IsProperStart memory source f args h counter ↔ IsProperStartOfRun p memory f args h counter
  pub ends : (f : List ℕ) (args : List PureValue) (h : Heap) (counter : ℕ) (inputs : List PureValue)
      → IsProperStart memory source f args h counter
      → AreSameEnds (source_end (body inputs) source f args h counter) (run_of p m f args h counter inputs)
