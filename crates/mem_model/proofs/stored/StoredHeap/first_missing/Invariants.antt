use Rattle.std.proofs.Common.{◌≡◌, drop}
use Rattle.mem_model.specs.Stored.{stored_heap_view}
use Rattle.mem_model.specs.Tables.{first_missing}
use Rattle.mem_model.proofs.stored.StoredHeap.first_missing.Given as goal

abbrev pub invariant-loop-key : goal.invariant-loop-key
invariant-loop-key l = first_missing (stored_heap_view l.self) l.keys ≡ first_missing (stored_heap_view l.self) (drop l.key-index l.keys)
