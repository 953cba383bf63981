-- Steps, and what holds where there is none.
use Rattle.std.proofs.Common.{Option, Some, None}
use Rattle.gil_values.specs.View.{values_view}
use Rattle.pure_terms.specs.Pure.{PureAtom}
use Rattle.solver_rules.specs.declared.nodes.Node.{Node}
use Rattle.solver_rules.specs.declared.rules.Rule.{Rule}
use Rattle.solver_rules.specs.declared.steps.Step.{Step}
use Rattle.solver_rules.specs.Nodes.{classes_of, IsApplied, IsStepOr}
use Rattle.solver_rules.specs.Rules.{IsDone}

pub applied : (n : Node) (rule : Rule) (a : PureAtom) (P : Type 0) → (P → IsDone rule (classes_of n) (values_view n.numbers.now) a) → (o : Option Step) → IsStepOr n P o → IsApplied n rule a o
applied n rule a P done (Some step) is = is
applied n rule a P done None is = done is
