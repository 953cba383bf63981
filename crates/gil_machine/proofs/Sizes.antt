-- The sizes of expressions.
use Rattle.std.proofs.Common.{◌≡◌, ℕ, zero, suc, ◌+◌, ◌≤◌, List, [], ◌∷◌, Some, slice_get, subst, arith}
use Rattle.gil_syntax.specs.Pure.{PureExpr, literal, name, logical, list_of, unary_of, binary_of, PureExprs, no_exprs, expr_and, from_list}

-- how many nodes an expression has
abbrev mutual
  pub expr_size : PureExpr → ℕ
  expr_size (literal v) = 1
  expr_size (name x) = 1
  expr_size (logical x) = 1
  expr_size (list_of es) = suc (exprs_size es)
  expr_size (unary_of op e) = suc (expr_size e)
  expr_size (binary_of op d e) = suc (expr_size d + expr_size e)

  pub exprs_size : PureExprs → ℕ
  exprs_size no_exprs = 0
  exprs_size (expr_and e es) = expr_size e + exprs_size es

-- an element is no larger than its list
pub size-element : (es : List PureExpr) (i : ℕ) (e : PureExpr) → slice_get es i ≡ Some e → expr_size e ≤ exprs_size (from_list es)
size-element [] i e is = cc
size-element (d ∷ es) zero e is = let same : d ≡ e = cc in subst (λ u. expr_size u ≤ exprs_size (from_list (d ∷ es))) same (omega arith)
size-element (d ∷ es) (suc i) e is = omega (arith, size-element es i e is)
