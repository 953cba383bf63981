use Rattle.std.proofs.Common.{◌≡◌, take}
use Rattle.pure_terms.specs.Pure.{from_list}
use Rattle.pure_terms.specs.View.{terms_view, atoms_view}
use Rattle.solver_proof.specs.Closing.{element_disequalities}
use Rattle.path_solver.proofs.branches.differences.Given as goal

abbrev pub invariant-loop-index : goal.invariant-loop-index
invariant-loop-index l = atoms_view l.atoms ≡ take l.index (element_disequalities (from_list (terms_view l.left)) (from_list (terms_view l.right)))
