use Rattle.std.proofs.Common.{◌≡◌, ◌<◌, length, Some, slice_get}
use Rattle.gil_values.specs.declared.kinds.Kind.{Kind}
use Rattle.pure_terms.specs.declared.variables.Var.{Var}
use Rattle.pure_terms.specs.Pure.{variable}
use Rattle.solver_rules.specs.Nodes.{vars_of, classes_of}
use Rattle.solver_rules.specs.Rules.{HasKind}
use Rattle.solver_rules.proofs.kinds.kinds_of.Given as goal

abbrev pub invariant-loop-number : goal.invariant-loop-number
invariant-loop-number l = record {
  size : length l.kinds ≡ l.number;
  each : (x : Var) (k : Kind) → x.number < l.number → slice_get (vars_of l.node) x.number ≡ Some x.sort → slice_get l.kinds x.number ≡ Some k → HasKind (classes_of l.node) (variable x) k;
}
