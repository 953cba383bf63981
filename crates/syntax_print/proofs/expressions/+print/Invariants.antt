use Rattle.std.proofs.Common.{◌≡◌, ◌+◌, ◌*◌, ◌++◌, take, string_bytes}
use Rattle.std.specs.Prelude.{codes}
use Rattle.std.specs.List.{join_by}
use Rattle.gil_syntax.specs.View.{expr_view, exprs_view}
use Rattle.gil_syntax.proofs.ExpressionLemmas.{node_count, nodes_count}
use Rattle.syntax_print.specs.Expressions.{printed_expr}
use Rattle.syntax_print.proofs.expressions.+print.Given as goal

abbrev pub decreases-push_expr : goal.decreases-push_expr
decreases-push_expr l = 2 * node_count (expr_view l.expression.now)

abbrev pub decreases-push_exprs : goal.decreases-push_exprs
decreases-push_exprs l = 2 * nodes_count (exprs_view l.expressions.now) + 1

abbrev pub invariant-push_exprs-loop-index : goal.invariant-push_exprs-loop-index
invariant-push_exprs-loop-index l = string_bytes l.out ≡ string_bytes l.fn.out ++ join_by printed_expr (codes ", ") (take l.index (exprs_view l.expressions))
