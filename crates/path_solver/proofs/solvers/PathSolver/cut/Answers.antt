use Rattle.path_solver.proofs.Appending.{views_taken}
use Rattle.path_solver.proofs.solvers.PathSolver.cut.Goals as goal

pub returns-clause-list : goal.returns-clause-list
returns-clause-list c = views_taken c.args.len c.args.self.now.list c.cut_to.new.list c.cut_to.ensures
