-- Expressions that are done from left to right into operands, over what a language says of its operators.
use Rattle.std.specs.Prelude.{ℕ, List, [], ◌∷◌, map}
use Rattle.gil_values.specs.declared.places.Place.{Place}
use Rattle.gil_values.specs.Pure.{PureValue}
use Rattle.gil_values.specs.Operators.{Outcome}
use Rattle.gil_syntax.specs.Pure.{PureExpr, literal, name}
use Rattle.gil_syntax.specs.Evaluation.{Store, Outcomes, evaluate, evaluate_all}
use Rattle.source_language.specs.Completions.{Situation, Completion}
use Rattle.source_operators.specs.declared.trees.Connective.{Connective}
use Rattle.source_operators.specs.Pure.{PureExpression, constant, variable, brackets, prefixed, joined, skipping}

-- what an expression leaves: a value, or a variable, which is read when an operator is applied to it
pub data Operand : Type 0 where
  known : PureValue → Operand
  named : List ℕ → Operand

-- as an expression over the variables of the source
abbrev pub operand_expr : Operand → PureExpr
operand_expr (known v) = literal v
operand_expr (named x) = name x

abbrev pub read : Operand → Store → Outcome
read a s = evaluate (operand_expr a) s

-- the values of operands, from left to right
abbrev pub read_all : List Operand → Store → Outcomes
read_all operands s = evaluate_all (map operand_expr operands) s

-- what is done with a value
abbrev pub Then : Type 0
Then = PureValue → Situation → Completion

-- what the operators of a language come to, at a place
pub record Meanings (P J : Type 0) : Type 0 where
  pub variable : List ℕ → Operand
  pub apply : P → Operand → Place → Situation → Then → Completion
  pub join : J → Operand → Operand → Place → Situation → Then → Completion
  -- the left side decides, or the right side is done
  pub decide : Connective → Operand → Place → Situation → Then → (Situation → Completion) → Completion
  pub conclude : Connective → Operand → Place → Situation → Then → Completion

module _ {P J : Type 0} (k : Meanings P J) where
  abbrev pub operand : PureExpression P J → Place → Situation → (Operand → Situation → Completion) → Completion
  operand (constant v) here s go = go (known v) s
  operand (variable x) here s go = go (k.variable x) s
  operand (brackets e) here s go = operand e here s go
  operand (prefixed u e) here s go = operand e here s (λ a t. k.apply u a here t (λ v r. go (known v) r))
  operand (joined j d e) here s go =
      operand d here s (λ a t. operand e here t (λ b r. k.join j a b here r (λ v q. go (known v) q)))
  operand (skipping c d e) here s go =
      operand d here s (λ a t. k.decide c a here t (λ v r. go (known v) r)
      (λ r. operand e here r (λ b q. k.conclude c b here q (λ v w. go (known v) w))))

  -- several expressions, from left to right
  abbrev pub all_operands : List (PureExpression P J) → Place → Situation → (List Operand → Situation → Completion) → Completion
  all_operands [] here s go = go [] s
  all_operands (e ∷ es) here s go = operand e here s (λ a t. all_operands es here t (λ rest r. go (a ∷ rest) r))
