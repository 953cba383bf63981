use Rattle.solver_proof.specs.View.{proof_view}
use Rattle.gil_values.proofs.Lists.{option_map-item}
use Rattle.solver_proof.proofs.Views.{proofs_view-items}
use Rattle.solver_proof.proofs.proofs.Proofs.get.Goals as goal

pub returns : goal.returns
returns c = rw (proofs_view-items, ← c.deref.ensures.value) (option_map-item proof_view _ c.args.index c.get.result c.get.ensures.lookup)
