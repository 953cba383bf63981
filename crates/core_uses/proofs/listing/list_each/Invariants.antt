use Rattle.std.proofs.Common.{◌≡◌, take}
use Rattle.sym_model.specs.View.{chunks_view, uses_view}
use Rattle.core_uses.specs.Uses.{listed_uses}
use Rattle.core_uses.proofs.listing.list_each.Given as goal

abbrev pub invariant-loop-chunk : goal.invariant-loop-chunk
invariant-loop-chunk l = uses_view l.uses ≡ listed_uses (chunks_view (take l.chunk-index l.chunks))
