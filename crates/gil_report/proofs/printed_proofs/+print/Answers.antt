use Rattle.std.proofs.Common.{◌≡◌, Some, slice_get, sym, arith}
use Rattle.std.specs.Prelude.{codes}
use Rattle.gil_values.proofs.Joined.{pushed}
use Rattle.gil_report.specs.Proofs.{printed_proof}
use Rattle.gil_report.specs.View.{named_proof_view, named_proofs_view}
use Rattle.gil_report.proofs.Added.{branches_added}
use Rattle.gil_report.proofs.Sizes.{size-element}
use Rattle.gil_report.proofs.printed_proofs.+print.Goals as goal

pub push_branches-returns : goal.push_branches-returns
push_branches-returns t c = branches_added _ _ _ _ _ c.in_ok-push_str.ensures.bytes c.in_ok-push_each.ensures c.in_ok-push_str-2.ensures.bytes

pub push_each-push_proof-requires : goal.push_each-push_proof-requires
push_each-push_proof-requires t c =
    let element : slice_get (named_proofs_view c.args.proofs.now) c.loop-index.index ≡ Some (named_proof_view c.in-Some.proof.now) = sym c.in-Some.ensures in
    let smaller = size-element _ c.loop-index.index _ element in
    (omega (arith, smaller), tt)

pub push_each-loop-index-preserved : goal.push_each-loop-index-preserved
push_each-loop-index-preserved t c =
    let element : slice_get (named_proofs_view c.args.proofs.now) c.loop-index.index ≡ Some (named_proof_view c.in-Some.proof.now) = sym c.in-Some.ensures in
    pushed printed_proof (codes ", ") _ c.loop-index.index _ _ _ _ _ element c.loop-index.invariant c.in_ok-push_separator.ensures c.in_ok-push_proof.ensures
