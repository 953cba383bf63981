-- Where a run of a C-like program may begin.
use Rattle.std.specs.Prelude.{ℕ, List}
use Rattle.gil_values.specs.Pure.{PureValue}
use Rattle.mem_model.specs.declared.keys.MemoryName.TheVariants as memories
use Rattle.mem_model.specs.Heaps.{Heap}
use Rattle.source_language.specs.Calls as calls
use Rattle.clike_lang.specs.Pure.{PureSource}

-- from a heap of blocks
abbrev pub IsProperStart : PureSource → List ℕ → List PureValue → Heap → ℕ → Type 0
IsProperStart source f args h counter = calls.IsProperStart memories.Block source f args h counter
