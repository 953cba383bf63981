use Rattle.std.proofs.Common.{◌≡◌, ◌+◌, ◌*◌, take, map}
use Rattle.gil_syntax.specs.View.{expr_view, exprs_view}
use Rattle.gil_syntax.proofs.ExpressionLemmas.{node_count, nodes_count}
use Rattle.syntax_copy.proofs.expressions.+copy.Given as goal

abbrev pub decreases-copy_expr : goal.decreases-copy_expr
decreases-copy_expr l = 2 * node_count (expr_view l.expression.now)

abbrev pub decreases-copy_exprs : goal.decreases-copy_exprs
decreases-copy_exprs l = 2 * nodes_count (exprs_view l.expressions.now) + 1

abbrev pub invariant-copy_exprs-loop-expression : goal.invariant-copy_exprs-loop-expression
invariant-copy_exprs-loop-expression l = exprs_view l.list ≡ map expr_view (take l.expression-index l.expression-items)
