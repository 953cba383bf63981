use Rattle.std.proofs.Common.{◌≡◌, ◌+◌, ◌*◌, map, take}
use Rattle.solver_proof.specs.Pure.{from_list}
use Rattle.solver_proof.specs.View.{proof_view, proofs_view}
use Rattle.solver_proof.proofs.Sizes.{proof_size, proofs_size}
use Rattle.gil_report.specs.View.{named_proofs_view}
use Rattle.report_names.specs.Named.{proof_of}
use Rattle.report_names.proofs.proofs.+name.Given as goal

abbrev pub decreases-named_proof : goal.decreases-named_proof
decreases-named_proof l = 2 * proof_size (proof_view l.proof.now)

abbrev pub decreases-named_proofs : goal.decreases-named_proofs
decreases-named_proofs l = 2 * proofs_size (from_list (proofs_view l.proofs.now)) + 1

abbrev pub invariant-named_proofs-loop-index : goal.invariant-named_proofs-loop-index
invariant-named_proofs-loop-index l = named_proofs_view l.list ≡ map (proof_of l.names) (take l.index (proofs_view l.proofs))
