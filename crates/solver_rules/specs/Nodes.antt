-- Nodes as the code has them.
use Rattle.std.specs.Prelude.{List, Option, Some, None, IsTrue}
use Rattle.std.specs.List.{list_all}
use Rattle.gil_values.specs.View.{values_view}
use Rattle.pure_terms.specs.declared.variables.Sort.{Sort}
use Rattle.pure_terms.specs.Deciding.{has_moderate_numbers}
use Rattle.pure_terms.specs.Meaning.{IsProper}
use Rattle.pure_terms.specs.Pure.{PureAtom}
use Rattle.pure_terms.specs.View.{atoms_view}
use Rattle.equality_core.specs.Classes.{PureClasses, classes_view}
use Rattle.linear_core.specs.Answers.{IsSolution}
use Rattle.solver_rules.specs.declared.nodes.Node.{Node}
use Rattle.solver_rules.specs.declared.rules.Rule.{Rule}
use Rattle.solver_rules.specs.declared.steps.Step.{Step}
use Rattle.solver_rules.specs.Rows.{rows_from}
use Rattle.solver_rules.specs.Rules.{IsDone, AreDone}
use Rattle.solver_rules.specs.Steps.{IsNode, IsStep}

abbrev pub vars_of : Node → List Sort
vars_of n = n.vars.now

abbrev pub list_of_node : Node → List PureAtom
list_of_node n = atoms_view n.list.now

abbrev pub classes_of : Node → PureClasses
classes_of n = classes_view n.classes.now

abbrev pub IsNodeOf : Node → Type 0
IsNodeOf n = IsNode (vars_of n) (list_of_node n) (classes_of n)

-- the numbers solve the rows of the list with its equalities of elements
abbrev pub IsSolvedNode : Node → Type 0
IsSolvedNode n = IsSolution (vars_of n) (rows_from (classes_of n).list) (values_view n.numbers.now)

-- the numbers are those of a proper valuation, and aren't too far from 0
pub record AreNumbers (n : Node) : Type 0 where
  pub proper : IsProper (vars_of n) (values_view n.numbers.now)
  pub moderate : IsTrue (list_all has_moderate_numbers (values_view n.numbers.now))

-- a step, or the rule has nothing to add at the atom
abbrev pub IsApplied : Node → Rule → PureAtom → Option Step → Type 0
IsApplied n rule a (Some step) = IsStep (vars_of n) (list_of_node n) step
IsApplied n rule a None = IsDone rule (classes_of n) (values_view n.numbers.now) a

-- a step, or the rule has nothing to add at any atom
abbrev pub IsRun : Node → Rule → Option Step → Type 0
IsRun n rule (Some step) = IsStep (vars_of n) (list_of_node n) step
IsRun n rule None = AreDone rule (classes_of n) (values_view n.numbers.now)

-- a step, or what holds where there is none
abbrev pub IsStepOr : Node → Type 0 → Option Step → Type 0
IsStepOr n P (Some step) = IsStep (vars_of n) (list_of_node n) step
IsStepOr n P None = P
