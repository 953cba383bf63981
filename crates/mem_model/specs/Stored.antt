-- The heap that is kept in memory.
use Rattle.std.specs.Prelude.{map}
use Rattle.std.specs.FinMap.{from_entries}
use Rattle.gil_values.specs.declared.tree.Value.{Value}
use Rattle.gil_values.specs.Pure.{PureValue}
use Rattle.gil_values.specs.View.{value_view}
use Rattle.mem_model.specs.declared.keys.Key.{Key}
use Rattle.mem_model.specs.declared.stored.StoredHeap.{StoredHeap}
use Rattle.mem_model.specs.Heaps.{Heap}

abbrev pub entry_view : Key × Value → Key × PureValue
entry_view e = (e.0, value_view e.1)

abbrev pub stored_heap_view : StoredHeap → Heap
stored_heap_view s = from_entries (map entry_view s.entries.entries)
