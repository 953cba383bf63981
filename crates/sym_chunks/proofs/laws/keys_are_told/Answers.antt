use Rattle.sym_chunks.proofs.Facts.{told_keys}
use Rattle.sym_chunks.proofs.laws.keys_are_told.Goals as goal

pub returns : goal.returns
returns c = told_keys
