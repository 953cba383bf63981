-- Expressions of source languages whose operators are done from left to right, as pure data.
use Rattle.std.specs.Prelude.{ℕ, List}
use Rattle.gil_values.specs.Pure.{PureValue}
use Rattle.source_operators.specs.declared.trees.Connective.{Connective}

-- P: the operators of one operand of a language; J: those of two
pub data PureExpression (P J : Type 0) : Type 0 where
  constant : PureValue → PureExpression P J
  variable : List ℕ → PureExpression P J
  brackets : PureExpression P J → PureExpression P J
  prefixed : P → PureExpression P J → PureExpression P J
  joined : J → PureExpression P J → PureExpression P J → PureExpression P J
  skipping : Connective → PureExpression P J → PureExpression P J → PureExpression P J
