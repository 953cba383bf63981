use Rattle.std.proofs.Common.{◌≡◌, take}
use Rattle.gil_values.specs.View.{value_view}
use Rattle.mem_model.specs.Stored.{stored_heap_view}
use Rattle.mem_model.specs.Tables.{with_all}
use Rattle.mem_model.proofs.stored.StoredHeap.put_all.Given as goal

abbrev pub invariant-loop-index : goal.invariant-loop-index
invariant-loop-index l = stored_heap_view l.self ≡ with_all (take l.index l.keys) (value_view l.value) (stored_heap_view l.initial.self)
