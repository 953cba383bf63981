use Rattle.sym_chunks.proofs.Elements.{ok_to}
use Rattle.block_sym.proofs.Loops.{joined_three}
use Rattle.block_sym.proofs.cells.with_unfound.Goals as goal

pub returns : goal.returns
returns c = ok_to c.with_missed.result _ _ (λ cs is. joined_three _ _ _ _ _ _ _ c.in_ok-gone.ensures c.in_ok-past.ensures is) c.with_missed.ensures
