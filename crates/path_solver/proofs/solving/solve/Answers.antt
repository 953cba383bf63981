use Rattle.pure_terms.specs.View.{atoms_view}
use Rattle.path_solver.proofs.Sorting.{over_there}
use Rattle.path_solver.proofs.solving.solve.Goals as goal

pub solve_on-requires-in-Unknown : goal.solve_on-requires-in-Unknown
solve_on-requires-in-Unknown g c =
    over_there c.args.vars.now c.in_ok-sorted-in-Unknown.sorted.vars (atoms_view c.args.atoms.now) (atoms_view c.in_ok-sorted-in-Unknown.sorted.atoms) c.requires c.in_ok-sorted-in-Unknown.ensures.table c.in_ok-sorted-in-Unknown.ensures.atoms
