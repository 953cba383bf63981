use Rattle.std.proofs.Common.{[], ◌∷◌, refl, subst}
use Rattle.gil_values.specs.View.{values_view}
use Rattle.solver_rules.specs.declared.rules.Rule.{Rule}
use Rattle.solver_rules.specs.Kinds.{AreFound}
use Rattle.solver_rules.specs.Nodes.{vars_of, classes_of, IsRun, IsStepOr}
use Rattle.solver_rules.specs.Rules.{AreDone}
use Rattle.solver_next.specs.Steps.{AreAllDone}
use Rattle.solver_next.proofs.steps.step_with_numbers.Goals as goal

pub model_of-requires : goal.model_of-requires
model_of-requires c = record {
  settled = record {
    node = c.requires.node;
    solved = c.requires.solved;
    are_kinds = subst (AreFound (vars_of c.args.node.now) (classes_of c.args.node.now)) c.in-All.is c.in_ok-kinds.ensures;
    done = done;
  };
} where
  all : AreAllDone (Rule.Linked ∷ Rule.OneKind ∷ Rule.TwoKinds ∷ Rule.Meeting ∷ Rule.Numbers ∷ Rule.SmallFact ∷ Rule.SmallSide ∷ Rule.Lists ∷ []) (classes_of c.args.node.now) (values_view c.args.node.now.numbers.now)
  all = subst (IsStepOr c.args.node.now (AreAllDone (Rule.Linked ∷ Rule.OneKind ∷ Rule.TwoKinds ∷ Rule.Meeting ∷ Rule.Numbers ∷ Rule.SmallFact ∷ Rule.SmallSide ∷ Rule.Lists ∷ []) (classes_of c.args.node.now) (values_view c.args.node.now.numbers.now))) c.in_default.is c.in_ok-step.ensures

  done : (rule : Rule) → AreDone rule (classes_of c.args.node.now) (values_view c.args.node.now.numbers.now)
  done Rule.Linked = all 0 Rule.Linked refl
  done Rule.OneKind = all 1 Rule.OneKind refl
  done Rule.TwoKinds = all 2 Rule.TwoKinds refl
  done Rule.Meeting = all 3 Rule.Meeting refl
  done Rule.Numbers = all 4 Rule.Numbers refl
  done Rule.SmallFact = all 5 Rule.SmallFact refl
  done Rule.SmallSide = all 6 Rule.SmallSide refl
  done Rule.Lists = all 7 Rule.Lists refl
  done Rule.Orders = subst (IsRun c.args.node.now Rule.Orders) c.in_default-2.is c.in_ok-step-2.ensures
