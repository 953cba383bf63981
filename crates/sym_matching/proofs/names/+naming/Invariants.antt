use Rattle.std.proofs.Common.{◌≡◌, ◌+◌, ◌*◌, map, take, true}
use Rattle.std.specs.List.{list_all}
use Rattle.gil_syntax.specs.View.{expr_view, exprs_view}
use Rattle.gil_syntax.proofs.ExpressionLemmas.{node_count, nodes_count}
use Rattle.assert_logic.specs.Names.{knows_all}
use Rattle.sym_evaluation.specs.View.{store_view}
use Rattle.sym_matching.specs.Splitting.{has_term}
use Rattle.sym_matching.proofs.names.+naming.Given as goal

abbrev pub decreases-knows_all : goal.decreases-knows_all
decreases-knows_all l = 2 * node_count (expr_view l.expression.now)

abbrev pub decreases-knows_each : goal.decreases-knows_each
decreases-knows_each l = 2 * nodes_count (exprs_view l.expressions.now) + 1

abbrev pub invariant-knows_each-loop-expression : goal.invariant-knows_each-loop-expression
invariant-knows_each-loop-expression l = list_all (knows_all (has_term (store_view l.store))) (map expr_view (take l.expression-index l.expression-items)) ≡ true
