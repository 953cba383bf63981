-- Printed terms: a term is printed as the expression that it is, with names for its variables.
use Rattle.std.specs.Prelude.{ℕ, List, ◌++◌, slice_get, Option, Some, None, codes}
use Rattle.gil_values.specs.Printed.{numeral}
use Rattle.gil_syntax.specs.Pure.{PureExpr, PureExprs, no_exprs, expr_and}
use Rattle.gil_syntax.specs.Pure as expr
use Rattle.pure_terms.specs.Meaning.{literal_value}
use Rattle.pure_terms.specs.Pure.{PureTerm, literal, variable, list_of, unary_of, binary_of, PureTerms, no_terms, term_and}
use Rattle.syntax_print.specs.Expressions.{printed_expr}

abbrev pub name_or_number : Option (List ℕ) → ℕ → List ℕ
name_or_number (Some name) n = name
name_or_number None n = codes "v" ++ numeral n

-- the name of the variable with this number: that at its place of the list, and `v` and its number where the list has none
abbrev pub name_of : List (List ℕ) → ℕ → List ℕ
name_of names n = name_or_number (slice_get names n) n

abbrev mutual
  pub expr_of : List (List ℕ) → PureTerm → PureExpr
  expr_of names (literal l) = expr.literal (literal_value l)
  expr_of names (variable x) = expr.name (name_of names x.number)
  expr_of names (list_of ts) = expr.list_of (exprs_of names ts)
  expr_of names (unary_of op t) = expr.unary_of op (expr_of names t)
  expr_of names (binary_of op s t) = expr.binary_of op (expr_of names s) (expr_of names t)

  pub exprs_of : List (List ℕ) → PureTerms → PureExprs
  exprs_of names no_terms = no_exprs
  exprs_of names (term_and t ts) = expr_and (expr_of names t) (exprs_of names ts)

abbrev pub printed_term : List (List ℕ) → PureTerm → List ℕ
printed_term names t = printed_expr (expr_of names t)
