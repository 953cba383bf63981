use Rattle.sym_chunks.proofs.Choosing.{joined_three}
use Rattle.sym_chunks.proofs.Elements.{ok_to}
use Rattle.record_sym.proofs.properties.without_name.Goals as goal

pub returns : goal.returns
returns c = ok_to c.with_missed.result _ _ (λ cs is. joined_three _ _ _ _ _ _ _ c.in_ok-gone.ensures c.in_ok-absent.ensures is) c.with_missed.ensures
