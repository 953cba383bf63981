use Rattle.std.proofs.Common.{◌≡◌, Some, slice_get, sym, arith}
use Rattle.solver_proof.specs.View.{proof_view, proofs_view}
use Rattle.solver_proof.proofs.Sizes.{size-element}
use Rattle.path_solver.proofs.taking.+taking.Goals as goal

pub moved_proofs-moved_proof-requires : goal.moved_proofs-moved_proof-requires
moved_proofs-moved_proof-requires t c =
    let element : slice_get (proofs_view c.args.proofs.now) c.loop-index.index ≡ Some (proof_view c.in-Some.proof.now) = sym c.in-Some.ensures in
    let smaller = size-element _ c.loop-index.index _ element in
    (omega (arith, smaller), tt)
