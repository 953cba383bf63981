use Rattle.std.proofs.Common.{◌≡◌, take}
use Rattle.sym_model.specs.View.{chunks_view}
use Rattle.sym_model.proofs.chunks.SymFrag.copy.Given as goal

abbrev pub invariant-loop-chunk : goal.invariant-loop-chunk
invariant-loop-chunk l = chunks_view l.chunks.items ≡ chunks_view (take l.chunk-index l.chunk-items)
