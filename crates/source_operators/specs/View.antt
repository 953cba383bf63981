-- The pure data of expressions.
use Rattle.gil_values.specs.View.{value_view}
use Rattle.source_operators.specs.Pure.{PureExpression, constant, variable, brackets, prefixed, joined, skipping}
use Rattle.source_operators.specs.declared.trees.Expression.{Expression, fold-Expression}
use Rattle.source_operators.specs.declared.trees.Expression.TheOpen.{Expression-F}

module _ {P J : Type 0} where
  -- one level of an expression, with each part already seen as its pure data
  abbrev pub expression_step : Expression-F P J (PureExpression P J) → PureExpression P J
  expression_step (Expression-F.Constant v) = constant (value_view v)
  expression_step (Expression-F.Variable x) = variable x
  expression_step (Expression-F.Brackets e) = brackets e.value
  expression_step (Expression-F.Prefixed u e) = prefixed u e.value
  expression_step (Expression-F.Joined j d e) = joined j d.value e.value
  expression_step (Expression-F.Skipping c d e) = skipping c d.value e.value

  abbrev pub expression_view : Expression P J → PureExpression P J
  expression_view = fold-Expression P J (PureExpression P J) expression_step
