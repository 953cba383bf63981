use Rattle.std.proofs.Common.{◌≡◌, map, take}
use Rattle.pure_terms.specs.Pure.{variable, positive}
use Rattle.pure_terms.specs.View.{atoms_view}
use Rattle.solver_proof.specs.Chains.{kind_is}
use Rattle.path_solver.proofs.branches.kind_tests.Given as goal

abbrev pub invariant-loop-kind : goal.invariant-loop-kind
invariant-loop-kind l = atoms_view l.atoms ≡ map (λ k. positive (kind_is (variable l.subject) k)) (take l.kind-index l.kinds)
