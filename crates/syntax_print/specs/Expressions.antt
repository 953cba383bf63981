-- Printed expressions: literal   name   [e, ..]   op(e)   nth(e, e)   (e op e).
use Rattle.std.specs.Prelude.{ℕ, List, [], ◌∷◌, ◌++◌, codes}
use Rattle.std.specs.List.{join_by}
use Rattle.gil_values.specs.declared.operators.UnOp.{UnOp}
use Rattle.gil_values.specs.declared.operators.UnOp.TheVariants as unary
use Rattle.gil_values.specs.declared.operators.BinOp.{BinOp}
use Rattle.gil_values.specs.declared.operators.BinOp.TheVariants as binary
use Rattle.gil_values.specs.Printed.{printed_value}
use Rattle.gil_syntax.specs.Pure.{PureExpr, literal, name, logical, list_of, unary_of, binary_of, PureExprs, no_exprs, expr_and}

-- ---- operators

abbrev pub unary_name : UnOp → List ℕ
unary_name unary.Not = codes "not"
unary_name unary.Neg = codes "neg"
unary_name unary.Len = codes "len"
unary_name unary.Kind = codes "kind"

-- what stands before the operands: `nth` is written before its brackets, the others between their operands
abbrev pub before_operands : BinOp → List ℕ
before_operands binary.Nth = codes "nth("
before_operands _ = codes "("

-- what stands between the operands
abbrev pub between_operands : BinOp → List ℕ
between_operands binary.Add = codes " + "
between_operands binary.Subtract = codes " - "
between_operands binary.Multiply = codes " * "
between_operands binary.Divide = codes " / "
between_operands binary.Remainder = codes " % "
between_operands binary.Equal = codes " = "
between_operands binary.Less = codes " < "
between_operands binary.LessOrEqual = codes " <= "
between_operands binary.And = codes " and "
between_operands binary.Or = codes " or "
between_operands binary.Append = codes " ++ "
between_operands binary.Nth = codes ", "

-- ---- expressions

abbrev mutual
  pub printed_expr : PureExpr → List ℕ
  printed_expr (literal v) = printed_value v
  printed_expr (name x) = x
  printed_expr (logical x) = x
  printed_expr (list_of es) = codes "[" ++ join_by (λ printed. printed) (codes ", ") (printed_elements es) ++ codes "]"
  printed_expr (unary_of op e) = unary_name op ++ codes "(" ++ printed_expr e ++ codes ")"
  printed_expr (binary_of op d e) = before_operands op ++ printed_expr d ++ between_operands op ++ printed_expr e ++ codes ")"

  -- each element of a list
  pub printed_elements : PureExprs → List (List ℕ)
  printed_elements no_exprs = []
  printed_elements (expr_and e es) = printed_expr e ∷ printed_elements es

-- expressions, with commas between them
abbrev pub printed_exprs : List PureExpr → List ℕ
printed_exprs es = join_by printed_expr (codes ", ") es
