use Rattle.std.proofs.Common.{◌≡◌, ◌+◌, ◌*◌, ◌++◌, take, string_bytes}
use Rattle.std.specs.Prelude.{codes}
use Rattle.std.specs.List.{join_by}
use Rattle.gil_report.specs.Proofs.{printed_proof}
use Rattle.gil_report.specs.Pure.{from_list}
use Rattle.gil_report.specs.View.{named_proof_view, named_proofs_view}
use Rattle.gil_report.proofs.Sizes.{proof_size, proofs_size}
use Rattle.gil_report.proofs.printed_proofs.+print.Given as goal

abbrev pub decreases-push_proof : goal.decreases-push_proof
decreases-push_proof l = 3 * proof_size (named_proof_view l.proof.now)

abbrev pub decreases-push_branches : goal.decreases-push_branches
decreases-push_branches l = 3 * proofs_size (from_list (named_proofs_view l.proofs.now)) + 2

abbrev pub decreases-push_each : goal.decreases-push_each
decreases-push_each l = 3 * proofs_size (from_list (named_proofs_view l.proofs.now)) + 1

abbrev pub invariant-push_each-loop-index : goal.invariant-push_each-loop-index
invariant-push_each-loop-index l =
    string_bytes l.out ≡ string_bytes l.fn.out ++ join_by printed_proof (codes ", ") (take l.index (named_proofs_view l.proofs))
