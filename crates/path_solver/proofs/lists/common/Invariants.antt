use Rattle.std.proofs.Common.{◌≡◌, take}
use Rattle.pure_terms.specs.View.{atoms_view}
use Rattle.path_solver.proofs.lists.common.Given as goal

abbrev pub invariant-loop-place : goal.invariant-loop-place
invariant-loop-place l = take l.place (atoms_view l.left) ≡ take l.place (atoms_view l.right)
