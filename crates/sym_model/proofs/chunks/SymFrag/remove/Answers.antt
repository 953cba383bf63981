use Rattle.std.proofs.Common.{ap, ◌∙◌}
use Rattle.sym_model.specs.View.{chunk_view, chunks_view}
use Rattle.sym_model.proofs.ChunkLists.{map-remove}
use Rattle.sym_model.proofs.chunks.SymFrag.remove.Goals as goal

pub returns : goal.returns
returns c = ap chunks_view c.remove.ensures.items ∙ map-remove chunk_view c.args.self.now.chunks.items c.args.index
