use Rattle.std.proofs.Common.{◌≡◌, take}
use Rattle.mem_model.specs.Stored.{stored_heap_view}
use Rattle.mem_model.specs.Tables.{without_keys}
use Rattle.mem_model.proofs.stored.StoredHeap.remove_all.Given as goal

abbrev pub invariant-loop-key : goal.invariant-loop-key
invariant-loop-key l = stored_heap_view l.self ≡ without_keys (take l.key-index l.keys) (stored_heap_view l.initial.self)
