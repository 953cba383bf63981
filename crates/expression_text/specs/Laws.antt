-- What was printed is read again, whatever follows that is no part of it.
use Rattle.std.specs.Prelude.{◌≡◌, ℕ, List, ◌++◌, Some}
use Rattle.gil_syntax.specs.Pure.{PureExpr}
use Rattle.syntax_print.specs.Expressions.{printed_expr}
use Rattle.value_text.specs.Laws.{EndsWord}
use Rattle.expression_text.specs.Reading.{any_expression_at}
use Rattle.expression_text.specs.Writable.{IsWritableExpr}

-- A writable expression that was printed is read again.
abbrev pub ExpressionsAgain : Type 0
ExpressionsAgain =
    (e : PureExpr) (rest : List ℕ) → IsWritableExpr e → EndsWord rest → any_expression_at (printed_expr e ++ rest) ≡ Some (e, rest)

-- What is read as an expression is writable.
abbrev pub OnlyWritableExpressions : Type 0
OnlyWritableExpressions = (bytes : List ℕ) (e : PureExpr) (rest : List ℕ) → any_expression_at bytes ≡ Some (e, rest) → IsWritableExpr e
