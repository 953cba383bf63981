-- The commands of the operators of C-like expressions.
use Rattle.std.specs.Prelude.{ℕ, ◌+◌, List, [], ◌∷◌, ◌++◌, false, codes}
use Rattle.gil_values.specs.declared.operators.BinOp.{BinOp}
use Rattle.gil_values.specs.declared.operators.BinOp.TheVariants as gil
use Rattle.gil_values.specs.declared.operators.UnOp.TheVariants as unary
use Rattle.gil_values.specs.Pure.{integer, text}
use Rattle.gil_syntax.specs.Pure.{PureExpr, literal, name, list_of, from_list, unary_of, binary_of, PureCommand, assign, act, fail, vanish, PureNumberedCommand}
use Rattle.source_language.specs.Code.{truth, jump}
use Rattle.source_language.specs.Names.{temporary}
use Rattle.source_language.specs.Procedures.{null, placed}
use Rattle.source_operators.specs.declared.trees.Connective.{Connective}
use Rattle.source_operators.specs.declared.trees.Connective.TheVariants as connectives
use Rattle.source_operators.specs.declared.trees.Operator.{Operator}
use Rattle.source_operators.specs.declared.trees.Operator.TheVariants.{Equal, Unequal, Less, LessOrEqual, Greater, GreaterOrEqual, Add, Subtract, Multiply, Divide, Remainder}
use Rattle.source_operators.specs.Codes.{Codes}
use Rattle.clike_operators.specs.declared.trees.Prefix.{Prefix}
use Rattle.clike_operators.specs.declared.trees.Prefix.TheVariants.{Minus, Not, Pointee}
use Rattle.clike_operators.specs.declared.trees.Joint.{Joint}
use Rattle.clike_operators.specs.declared.trees.Joint.TheVariants.{Operation, Cell, Address}
use Rattle.clike_operators.specs.declared.pieces.Beyond.{Beyond}
use Rattle.clike_operators.specs.declared.pieces.Beyond.TheVariants.{Overflows, Vanishes}
use Rattle.clike_operators.specs.Ranges.{greatest, least, number}

abbrev pub number_literal : ℕ → PureExpr
number_literal n = literal (number n)

abbrev pub beyond_command : Beyond → PureCommand
beyond_command Overflows = fail (literal (text (codes "overflow")))
beyond_command Vanishes = vanish

-- the value of an expression must be in range
abbrev pub range_code : ℕ → ℕ → PureExpr → Beyond → List PureNumberedCommand
range_code pc at e out =
    jump at (binary_of gil.LessOrEqual e (literal (integer greatest))) (pc + 2)
    ∷ placed at (beyond_command out)
    ∷ jump at (binary_of gil.LessOrEqual (literal (integer least)) e) (pc + 2 + 2)
    ∷ placed at (beyond_command out)
    ∷ []

-- jumps to a label where the value of an expression is false
abbrev pub false_code : ℕ → PureExpr → ℕ → List PureNumberedCommand
false_code at e label = jump at (binary_of gil.Equal e (number_literal 0)) label ∷ jump at (binary_of gil.Equal e null) label ∷ []

-- a temporary gets a value
abbrev pub sets : ℕ → ℕ → PureExpr → PureNumberedCommand
sets at t e = placed at (assign (temporary t) e)

abbrev pub arithmetic_code : BinOp → ℕ → ℕ → ℕ → PureExpr → PureExpr → List PureNumberedCommand
arithmetic_code op pc at i d e = sets at i (binary_of op d e) ∷ range_code (pc + 1) at (name (temporary i)) Overflows

abbrev pub remainder_code : ℕ → ℕ → ℕ → PureExpr → PureExpr → List PureNumberedCommand
remainder_code pc at i d e = arithmetic_code gil.Divide pc at i d e ++ sets at (i + 1) (binary_of gil.Remainder d e) ∷ []

-- a temporary gets one number, and then the next two commands, of which the second one gives it another number, are passed; a jump to
-- that command leads to the other number
abbrev pub choice_code : ℕ → ℕ → ℕ → ℕ → ℕ → List PureNumberedCommand
choice_code pc at t first second = sets at t (number_literal first) ∷ jump at truth (pc + 1 + 2) ∷ sets at t (number_literal second) ∷ []

abbrev pub comparison_code : ℕ → ℕ → ℕ → PureExpr → List PureNumberedCommand
comparison_code pc at i e = jump at e (pc + 3) ∷ choice_code (pc + 1) at i 0 1

abbrev pub operation_code : Operator → ℕ → ℕ → ℕ → PureExpr → PureExpr → List PureNumberedCommand
operation_code Equal pc at i d e = comparison_code pc at i (binary_of gil.Equal d e)
operation_code Unequal pc at i d e = comparison_code pc at i (unary_of unary.Not (binary_of gil.Equal d e))
operation_code Less pc at i d e = comparison_code pc at i (binary_of gil.Less d e)
operation_code LessOrEqual pc at i d e = comparison_code pc at i (binary_of gil.LessOrEqual d e)
operation_code Greater pc at i d e = comparison_code pc at i (binary_of gil.Less e d)
operation_code GreaterOrEqual pc at i d e = comparison_code pc at i (binary_of gil.LessOrEqual e d)
operation_code Add pc at i d e = arithmetic_code gil.Add pc at i d e
operation_code Subtract pc at i d e = arithmetic_code gil.Subtract pc at i d e
operation_code Multiply pc at i d e = arithmetic_code gil.Multiply pc at i d e
operation_code Divide pc at i d e = arithmetic_code gil.Divide pc at i d e
operation_code Remainder pc at i d e = remainder_code pc at i d e

abbrev pub operation_uses : Operator → ℕ
operation_uses Remainder = 2
operation_uses _ = 1

abbrev pub not_code : ℕ → ℕ → ℕ → PureExpr → List PureNumberedCommand
not_code pc at i e = false_code at e (pc + 2 + 2) ++ choice_code (pc + 2) at i 0 1

-- the block of the cell e places behind the pointer d, and the number of the cell, in two temporaries
abbrev pub cell_code : ℕ → ℕ → ℕ → PureExpr → PureExpr → List PureNumberedCommand
cell_code pc at i d e =
    jump at (unary_of unary.Not (binary_of gil.Equal d null)) (pc + 2)
    ∷ placed at (fail (literal (text (codes "null"))))
    ∷ sets at i (binary_of gil.Nth d (number_literal 0))
    ∷ sets at (i + 1) (binary_of gil.Nth d (number_literal 1))
    ∷ sets at (i + 1) (binary_of gil.Add (name (temporary (i + 1))) e)
    ∷ []

-- the address in two temporaries
abbrev pub address_expr : ℕ → PureExpr
address_expr i = list_of (from_list (name (temporary i) ∷ name (temporary (i + 1)) ∷ []))

abbrev pub address_code : ℕ → ℕ → ℕ → PureExpr → PureExpr → List PureNumberedCommand
address_code pc at i d e = cell_code pc at i d e ++ sets at (i + 2) (address_expr i) ∷ []

abbrev pub content_code : ℕ → ℕ → ℕ → PureExpr → PureExpr → List PureNumberedCommand
content_code pc at i d e = cell_code pc at i d e ++ placed at (act (temporary (i + 2)) (codes "load") (address_expr i ∷ [])) ∷ []

abbrev pub applied_code : Prefix → ℕ → ℕ → ℕ → PureExpr → List PureNumberedCommand
applied_code Minus pc at i e = arithmetic_code gil.Subtract pc at i (number_literal 0) e
applied_code Not pc at i e = not_code pc at i e
applied_code Pointee pc at i e = content_code pc at i e (number_literal 0)

abbrev pub applied_uses : Prefix → ℕ
applied_uses Minus = 1
applied_uses Not = 1
applied_uses Pointee = 3

abbrev pub joined_code : Joint → ℕ → ℕ → ℕ → PureExpr → PureExpr → List PureNumberedCommand
joined_code (Operation op) pc at i d e = operation_code op pc at i d e
joined_code Cell pc at i d e = content_code pc at i d e
joined_code Address pc at i d e = address_code pc at i d e

abbrev pub joined_uses : Joint → ℕ
joined_uses (Operation op) = operation_uses op
joined_uses Cell = 3
joined_uses Address = 3

-- `a && ..` goes on to its 0 where a is false, behind so many commands of the right side; `a || ..` goes on to its 1 where a is not
abbrev pub decision_code : Connective → ℕ → ℕ → ℕ → ℕ → PureExpr → List PureNumberedCommand
decision_code connectives.And pc at t right a = false_code at a (pc + 2 + right + 2 + 2)
decision_code connectives.Or pc at t right a = false_code at a (pc + 3) ++ jump at truth (pc + 3 + right + 2) ∷ []

abbrev pub decision_size : Connective → ℕ
decision_size connectives.And = 2
decision_size connectives.Or = 3

abbrev pub conclusion_code : ℕ → ℕ → ℕ → PureExpr → List PureNumberedCommand
conclusion_code pc at t b = false_code at b (pc + 2 + 2) ++ choice_code (pc + 2) at t 1 0

abbrev pub codes_of_operators : Codes Prefix Joint
codes_of_operators = record {
  variable = name;
  apply_uses = applied_uses;
  apply = applied_code;
  join_uses = joined_uses;
  join = joined_code;
  early = false;
  decide_size = decision_size;
  decide = decision_code;
  conclude = λ c pc at t b. conclusion_code pc at t b;
}
