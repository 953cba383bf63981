use Rattle.std.proofs.Common.{◌≡◌, ◌<◌, ℕ, Some, slice_get}
use Rattle.gil_values.specs.View.{values_view}
use Rattle.solver_rules.specs.declared.rules.Rule.{Rule}
use Rattle.solver_rules.specs.Nodes.{classes_of}
use Rattle.solver_rules.specs.Rules.{AreDone}
use Rattle.solver_next.proofs.trying.run_each.Given as goal

abbrev pub invariant-loop-rule : goal.invariant-loop-rule
invariant-loop-rule l = (i : ℕ) (rule : Rule) → i < l.rule-index → slice_get l.rules i ≡ Some rule → AreDone rule (classes_of l.node) (values_view l.node.numbers.now)
