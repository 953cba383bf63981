-- What a compiled program has of its source: from every proper start, with any inputs, the same ends.
use Rattle.std.specs.Prelude.{◌↔◌, ℕ, List}
use Rattle.gil_values.specs.Pure.{PureValue}
use Rattle.gil_syntax.specs.Pure.{PureParts}
use Rattle.mem_model.specs.declared.keys.MemoryName.TheVariants.{Record}
use Rattle.mem_model.specs.Heaps.{Heap}
use Rattle.record_heap.specs.Table.{record_actions}
use Rattle.gil_machine.specs.Run.{run_of, IsProperStart as IsProperStartOfRun}
use Rattle.source_language.specs.SameEnds.{AreSameEnds}
use Rattle.while_lang.specs.Pure.{PureSource}
use Rattle.while_lang.specs.Meaning.{source_end}
use Rattle.while_lang.specs.Start.{IsProperStart}

pub record HasSameEnds (source : PureSource) (p : PureParts) : Type 0 where
  pub starts : (f : List ℕ) (args : List PureValue) (h : Heap) (counter : ℕ)
      → IsProperStart source f args h counter ↔ IsProperStartOfRun p Record f args h counter
  pub ends : (f : List ℕ) (args : List PureValue) (h : Heap) (counter : ℕ) (inputs : List PureValue)
      → IsProperStart source f args h counter
      → AreSameEnds (source_end source record_actions f args h counter inputs) (run_of p record_actions f args h counter inputs)
