use Rattle.std.proofs.Common.{◌≡◌, ◌≤◌, Bool, List, length, Some, slice_get, refl, sym, arith}
use Rattle.gil_report.specs.Pure.{PureNamedProof, from_list}
use Rattle.gil_report.specs.View.{named_proof_view, named_proofs_view}
use Rattle.writable_reports.proofs.Sizes.{size-element}
use Rattle.writable_reports.specs.Tests.{is_writable_proof, are_writable_proofs}
use Rattle.writable_reports.proofs.Walk.{goes_on, fails, ends}
use Rattle.writable_reports.proofs.proofs.+proof.Goals as goal

pub are_writable_proofs-is_writable_proof-requires : goal.are_writable_proofs-is_writable_proof-requires
are_writable_proofs-is_writable_proof-requires t c =
    let element : slice_get (named_proofs_view c.args.proofs.now) c.loop-index.index ≡ Some (named_proof_view c.in-Some.proof.now) = sym c.in-Some.ensures in
    let smaller = size-element _ c.loop-index.index _ element in
    (omega (arith, smaller), tt)

abbrev all_writable : List PureNamedProof → Bool
all_writable ps = are_writable_proofs (from_list ps)

pub are_writable_proofs-loop-index-preserved : goal.are_writable_proofs-loop-index-preserved
are_writable_proofs-loop-index-preserved t c =
    let element : slice_get (named_proofs_view c.args.proofs.now) c.loop-index.index ≡ Some (named_proof_view c.in-Some.proof.now) = sym c.in-Some.ensures in
    goes_on is_writable_proof all_writable refl (λ p ps. refl) (named_proofs_view c.args.proofs.now) c.loop-index.index (named_proof_view c.in-Some.proof.now)
    c.is_writable_proof.result c.loop-index.invariant element c.is_writable_proof.ensures c.if-not-is_writable_proof.false

pub are_writable_proofs-returns-then-not-is_writable_proof : goal.are_writable_proofs-returns-then-not-is_writable_proof
are_writable_proofs-returns-then-not-is_writable_proof t c =
    let element : slice_get (named_proofs_view c.args.proofs.now) c.loop-index.index ≡ Some (named_proof_view c.in-Some.proof.now) = sym c.in-Some.ensures in
    fails is_writable_proof all_writable refl (λ p ps. refl) (named_proofs_view c.args.proofs.now) c.loop-index.index (named_proof_view c.in-Some.proof.now)
    c.is_writable_proof.result c.loop-index.invariant element c.is_writable_proof.ensures c.if-not-is_writable_proof.true

pub are_writable_proofs-returns : goal.are_writable_proofs-returns
are_writable_proofs-returns t c =
    let past : length (named_proofs_view c.args.proofs.now) ≤ c.loop-index.index = omega (arith, c.len-index-end.ensures) in
    ends is_writable_proof all_writable refl (λ p ps. refl) (named_proofs_view c.args.proofs.now) c.loop-index.index c.loop-index.invariant past
