use Rattle.std.proofs.Common.{◌≡◌, ◌<◌, ℕ, Some, slice_get}
use Rattle.gil_values.specs.View.{values_view}
use Rattle.pure_terms.specs.Pure.{PureAtom}
use Rattle.pure_terms.specs.View.{atoms_view}
use Rattle.solver_rules.specs.Nodes.{classes_of}
use Rattle.solver_rules.specs.Rules.{IsDone}
use Rattle.solver_rules.proofs.running.run.Given as goal

abbrev pub invariant-loop-place : goal.invariant-loop-place
invariant-loop-place l = (i : ℕ) (a : PureAtom) → i < l.place → slice_get (atoms_view l.atoms) i ≡ Some a → IsDone l.rule (classes_of l.node) (values_view l.node.numbers.now) a
