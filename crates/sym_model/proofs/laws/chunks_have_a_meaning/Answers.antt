use Rattle.sym_model.proofs.ChunkMeaning.{chunks_have_meaning}
use Rattle.sym_model.proofs.laws.chunks_have_a_meaning.Goals as goal

pub returns : goal.returns
returns c = chunks_have_meaning
