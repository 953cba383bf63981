use Rattle.std.proofs.Common.{◌≡◌, ◌+◌, ◌*◌, drop}
use Rattle.gil_report.specs.Pure.{from_list}
use Rattle.gil_report.specs.View.{named_proof_view, named_proofs_view}
use Rattle.writable_reports.proofs.Sizes.{proof_size, proofs_size}
use Rattle.writable_reports.specs.Tests.{are_writable_proofs}
use Rattle.writable_reports.proofs.proofs.+proof.Given as goal

abbrev pub decreases-is_writable_proof : goal.decreases-is_writable_proof
decreases-is_writable_proof l = 2 * proof_size (named_proof_view l.proof.now)

abbrev pub decreases-are_writable_proofs : goal.decreases-are_writable_proofs
decreases-are_writable_proofs l = 2 * proofs_size (from_list (named_proofs_view l.proofs.now)) + 1

abbrev pub invariant-are_writable_proofs-loop-index : goal.invariant-are_writable_proofs-loop-index
invariant-are_writable_proofs-loop-index l =
    are_writable_proofs (from_list (drop l.index (named_proofs_view l.proofs))) ≡ are_writable_proofs (from_list (named_proofs_view l.proofs))
