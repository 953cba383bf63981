use Rattle.pure_terms.specs.View.{atoms_view}
use Rattle.solver_rules.specs.Steps.{ArePlain}
use Rattle.path_solver.proofs.outside.plain_list.Given as goal

abbrev pub invariant-loop-atom : goal.invariant-loop-atom
invariant-loop-atom g l = ArePlain l.vars (atoms_view l.list)
