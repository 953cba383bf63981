use Rattle.std.proofs.Common.{◌≡◌, map, take}
use Rattle.pure_terms.specs.declared.literals.Literal.{Literal}
use Rattle.pure_terms.specs.Pure.{literal, variable, positive}
use Rattle.pure_terms.specs.View.{atoms_view}
use Rattle.solver_proof.specs.Chains.{equals}
use Rattle.path_solver.proofs.branches.kind_equalities.Given as goal

abbrev pub invariant-loop-kind : goal.invariant-loop-kind
invariant-loop-kind l = atoms_view l.atoms ≡ map (λ k. positive (equals (variable l.subject) (literal (Literal.Kind k)))) (take l.kind-index l.kinds)
