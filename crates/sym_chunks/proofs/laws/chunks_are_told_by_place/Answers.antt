use Rattle.sym_chunks.proofs.PlaceLaws.{told_by_place}
use Rattle.sym_chunks.proofs.laws.chunks_are_told_by_place.Goals as goal

pub returns : goal.returns
returns c = told_by_place
