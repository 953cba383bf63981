use Rattle.std.proofs.Common.{◌≡◌, ◌+◌, ◌*◌, map, take, false}
use Rattle.std.specs.List.{list_any}
use Rattle.gil_syntax.specs.View.{expr_view, exprs_view}
use Rattle.gil_syntax.specs.Found.{stands_in}
use Rattle.gil_syntax.proofs.ExpressionLemmas.{node_count, nodes_count}
use Rattle.gil_syntax.proofs.seeking.+seeking.Given as goal

abbrev pub decreases-in_expression : goal.decreases-in_expression
decreases-in_expression g l = 2 * node_count (expr_view l.expression.now)

abbrev pub decreases-in_expressions : goal.decreases-in_expressions
decreases-in_expressions g l = 2 * nodes_count (exprs_view l.expressions.now) + 1

abbrev pub invariant-in_expressions-loop-expression : goal.invariant-in_expressions-loop-expression
invariant-in_expressions-loop-expression g l = list_any (stands_in (g.S.Sought.is_node l.sought)) (map expr_view (take l.expression-index l.expression-items)) ≡ false
