use Rattle.pure_terms.specs.View.{atoms_view}
use Rattle.path_solver.proofs.Sorting.{over_there}
use Rattle.path_solver.proofs.deciding.decide_sorted.Goals as goal

pub solve_on-requires : goal.solve_on-requires
solve_on-requires c =
    over_there c.args.vars.now c.in_ok-sorted.sorted.vars (atoms_view c.args.atoms.now) (atoms_view c.in_ok-sorted.sorted.atoms) c.requires.over c.in_ok-sorted.ensures.table c.in_ok-sorted.ensures.atoms
