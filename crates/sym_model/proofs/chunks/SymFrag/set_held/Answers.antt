use Rattle.std.proofs.Common.{◌<◌, length, arith}
use Rattle.std.proofs.lemmas.List.{length-map}
use Rattle.sym_model.specs.View.{chunk_view}
use Rattle.sym_model.proofs.ChunkLists.{held-set}
use Rattle.sym_model.proofs.chunks.SymFrag.set_held.Goals as goal

pub returns : goal.returns
returns c =
    let below : c.args.index < length c.args.self.now.chunks.items = omega (arith, length-map c.args.self.now.chunks.items chunk_view, c.requires) in
    held-set c.args.self.now.chunks.items c.args.index c.index_mut-chunk.result.now c.args.val below c.index_mut-chunk.ensures.value
