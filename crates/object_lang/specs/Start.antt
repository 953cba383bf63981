-- Where a run of a program of the object language may begin.
use Rattle.std.specs.Prelude.{ℕ, List}
use Rattle.gil_values.specs.Pure.{PureValue}
use Rattle.mem_model.specs.declared.keys.MemoryName.TheVariants as memories
use Rattle.mem_model.specs.Heaps.{Heap}
use Rattle.source_language.specs.Calls as calls
use Rattle.object_lang.specs.Meaning.{with_library}
use Rattle.object_lang.specs.Pure.{PureSource}

-- from a heap of objects, in a function of the program or in that which reads properties
abbrev pub IsProperStart : PureSource → List ℕ → List PureValue → Heap → ℕ → Type 0
IsProperStart source f args h counter = calls.IsProperStart memories.Object (with_library source) f args h counter
