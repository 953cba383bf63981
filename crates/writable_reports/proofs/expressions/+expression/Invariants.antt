use Rattle.std.proofs.Common.{◌≡◌, ◌+◌, ◌*◌, drop, map}
use Rattle.gil_syntax.proofs.ExpressionLemmas.{node_count, nodes_count}
use Rattle.gil_syntax.specs.Pure.{from_list}
use Rattle.gil_syntax.specs.View.{expr_view, exprs_view}
use Rattle.writable_reports.specs.Tests.{are_writable_exprs}
use Rattle.writable_reports.proofs.expressions.+expression.Given as goal

abbrev pub decreases-is_writable_expr : goal.decreases-is_writable_expr
decreases-is_writable_expr l = 2 * node_count (expr_view l.expression.now)

abbrev pub decreases-are_writable_exprs : goal.decreases-are_writable_exprs
decreases-are_writable_exprs l = 2 * nodes_count (exprs_view l.expressions.now) + 1

abbrev pub invariant-are_writable_exprs-loop-expression : goal.invariant-are_writable_exprs-loop-expression
invariant-are_writable_exprs-loop-expression l =
    are_writable_exprs (from_list (map expr_view (drop l.expression-index l.expression-items)))
    ≡ are_writable_exprs (from_list (map expr_view l.expression-items))
