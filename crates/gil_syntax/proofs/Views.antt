-- The views, level by level.
use Rattle.std.proofs.Common.{◌≡◌, map, rules}
use Rattle.gil_syntax.specs.View.{expr_view, exprs_view}
use Rattle.gil_syntax.specs.declared.expressions.Expr.{the_lemmas}
use Rattle.gil_syntax.specs.declared.expressions.Exprs.{Exprs}

pub exprs_view-items : (es : Exprs) → exprs_view es ≡ map expr_view es.items.items
exprs_view-items es = search (rules, the_lemmas)
