use Rattle.std.proofs.Common.{◌≡◌, take}
use Rattle.pure_terms.specs.View.{atoms_view}
use Rattle.path_solver.specs.Standing.{table_of, list_of}
use Rattle.path_solver.proofs.solvers.PathSolver.turn_to.Given as goal

abbrev pub invariant-loop-index : goal.invariant-loop-index
invariant-loop-index l = record {
  table : table_of l.self ≡ l.vars;
  list : list_of l.self ≡ take l.index (atoms_view l.atoms);
}
