use Rattle.std.proofs.Common.{◌+◌, ◌*◌}
use Rattle.solver_proof.specs.Pure.{from_list}
use Rattle.solver_proof.specs.View.{proof_view, proofs_view}
use Rattle.solver_proof.proofs.Sizes.{proof_size, proofs_size}
use Rattle.path_solver.proofs.taking.+taking.Given as goal

abbrev pub decreases-moved_proof : goal.decreases-moved_proof
decreases-moved_proof l = 2 * proof_size (proof_view l.proof.now)

abbrev pub decreases-moved_proofs : goal.decreases-moved_proofs
decreases-moved_proofs l = 2 * proofs_size (from_list (proofs_view l.proofs.now)) + 1
