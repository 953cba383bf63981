use Rattle.std.proofs.Common.{◌≡◌, ◌+◌, ◌*◌, map, take, true}
use Rattle.std.specs.List.{list_all}
use Rattle.gil_syntax.specs.View.{expr_view, exprs_view}
use Rattle.gil_syntax.proofs.ExpressionLemmas.{node_count, nodes_count}
use Rattle.assert_logic.specs.Names.{knows_all}
use Rattle.assert_logic.proofs.names.+naming.Given as goal

abbrev pub decreases-all_names : goal.decreases-all_names
decreases-all_names g l = 2 * node_count (expr_view l.expression.now)

abbrev pub decreases-all_names_among : goal.decreases-all_names_among
decreases-all_names_among g l = 2 * nodes_count (exprs_view l.expressions.now) + 1

abbrev pub invariant-all_names_among-loop-expression :
    goal.invariant-all_names_among-loop-expression
invariant-all_names_among-loop-expression g l = list_all (knows_all (g.T.NameTest.accepts l.test)) (map expr_view (take l.expression-index l.expression-items)) ≡ true
