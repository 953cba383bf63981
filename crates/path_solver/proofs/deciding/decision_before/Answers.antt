use Rattle.std.proofs.Common.{subst}
use Rattle.gil_values.specs.View.{values_view}
use Rattle.pure_terms.specs.View.{atoms_view}
use Rattle.solver_proof.specs.View.{proof_view}
use Rattle.path_solver.specs.declared.solutions.Solution.{Solution}
use Rattle.path_solver.specs.Solving.{IsSolved, solution_view}
use Rattle.path_solver.proofs.Sorting.{met_before, unmet_before}
use Rattle.path_solver.proofs.deciding.decision_before.Goals as goal

pub returns-in-Sat-clause-right : goal.returns-in-Sat-clause-right
returns-in-Sat-clause-right c =
    let there = subst (λ (s : Solution). IsSolved c.args.sorted.now.vars (atoms_view c.args.sorted.now.atoms) (solution_view s)) c.in-Sat.is c.requires.solved in (
      met_before c.args.vars.now c.args.sorted.now.vars (atoms_view c.args.atoms.now) (atoms_view c.args.sorted.now.atoms) c.requires.over c.requires.table c.requires.list c.sorted_lists_have_the_same_solutions.ensures.solutions (values_view c.in-Sat.valuation) there.0,
      λ within. absurd (c.requires.kept_out.0 within),
    )

pub returns-in-Unsat-clause-right : goal.returns-in-Unsat-clause-right
returns-in-Unsat-clause-right c =
    let there = subst (λ (s : Solution). IsSolved c.args.sorted.now.vars (atoms_view c.args.sorted.now.atoms) (solution_view s)) c.in-Unsat.is c.requires.solved in
    unmet_before c.args.vars.now c.args.sorted.now.vars (atoms_view c.args.atoms.now) (atoms_view c.args.sorted.now.atoms) c.requires.over c.requires.table c.requires.list c.sorted_lists_have_the_same_solutions.ensures.solutions c.closed_lists_have_no_solution.ensures (proof_view c.in-Unsat.field-0) there
