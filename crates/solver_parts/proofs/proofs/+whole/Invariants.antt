use Rattle.std.proofs.Common.{◌+◌, ◌*◌}
use Rattle.solver_proof.specs.Pure.{from_list}
use Rattle.solver_proof.specs.View.{proof_view, proofs_view}
use Rattle.solver_proof.proofs.Sizes.{proof_size, proofs_size}
use Rattle.solver_parts.proofs.proofs.+whole.Given as goal

abbrev pub decreases-whole_proof : goal.decreases-whole_proof
decreases-whole_proof l = 2 * proof_size (proof_view l.proof.now)

abbrev pub decreases-whole_proofs : goal.decreases-whole_proofs
decreases-whole_proofs l = 2 * proofs_size (from_list (proofs_view l.proofs.now)) + 1
