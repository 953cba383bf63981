use Rattle.std.proofs.Common.{refl}
use Rattle.pure_terms.specs.View.{atoms_view}
use Rattle.path_solver.proofs.Appending.{take_same}
use Rattle.path_solver.proofs.lists.common.Goals as goal

pub loop-place-preserved : goal.loop-place-preserved
loop-place-preserved c =
    let same = c.if-not-are_same_at.ensures refl in
    take_same (atoms_view c.args.left.now) (atoms_view c.args.right.now) c.loop-place.place same.atom c.loop-place.invariant same.at_left same.at_right
