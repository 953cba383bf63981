-- The binary operators of the object language as expressions of GIL over their operands.
use Rattle.gil_values.specs.declared.operators.BinOp.TheVariants as gil
use Rattle.gil_values.specs.declared.operators.UnOp.TheVariants as unary
use Rattle.gil_syntax.specs.Pure.{PureExpr, unary_of, binary_of}
use Rattle.source_operators.specs.declared.trees.Operator.{Operator}
use Rattle.source_operators.specs.declared.trees.Operator.TheVariants.{Equal, Unequal, Less, LessOrEqual, Greater, GreaterOrEqual, Add, Subtract, Multiply, Divide, Remainder}

abbrev pub operation : Operator → PureExpr → PureExpr → PureExpr
operation Equal d e = binary_of gil.Equal d e
operation Unequal d e = unary_of unary.Not (binary_of gil.Equal d e)
operation Less d e = binary_of gil.Less d e
operation LessOrEqual d e = binary_of gil.LessOrEqual d e
operation Greater d e = binary_of gil.Less e d
operation GreaterOrEqual d e = binary_of gil.LessOrEqual e d
operation Add d e = binary_of gil.Add d e
operation Subtract d e = binary_of gil.Subtract d e
operation Multiply d e = binary_of gil.Multiply d e
operation Divide d e = binary_of gil.Divide d e
operation Remainder d e = binary_of gil.Remainder d e
