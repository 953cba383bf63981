use Rattle.std.proofs.Common.{◌≡◌, Some, slice_get, sym, arith}
use Rattle.solver_proof.specs.View.{proof_view, proofs_view}
use Rattle.solver_proof.proofs.Sizes.{size-element}
use Rattle.solver_parts.proofs.proofs.+whole.Goals as goal

pub whole_proofs-whole_proof-requires : goal.whole_proofs-whole_proof-requires
whole_proofs-whole_proof-requires t c =
    let element : slice_get (proofs_view c.args.proofs.now) c.loop-index.index ≡ Some (proof_view c.in-Some.proof.now) = sym c.in-Some.ensures in
    let smaller = size-element _ c.loop-index.index _ element in
    (omega (arith, smaller), tt)
