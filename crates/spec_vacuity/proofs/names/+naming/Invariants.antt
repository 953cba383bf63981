use Rattle.std.proofs.Common.{◌≡◌, ◌+◌, ◌*◌, map, take, true}
use Rattle.std.specs.List.{list_all}
use Rattle.gil_syntax.specs.View.{expr_view, exprs_view}
use Rattle.gil_syntax.proofs.ExpressionLemmas.{node_count, nodes_count}
use Rattle.assert_logic.specs.Names.{knows_all, is_other}
use Rattle.spec_vacuity.proofs.names.+naming.Given as goal

abbrev pub decreases-all_others : goal.decreases-all_others
decreases-all_others l = 2 * node_count (expr_view l.expression.now)

abbrev pub decreases-all_others_among : goal.decreases-all_others_among
decreases-all_others_among l = 2 * nodes_count (exprs_view l.expressions.now) + 1

abbrev pub invariant-all_others_among-loop-expression :
    goal.invariant-all_others_among-loop-expression
invariant-all_others_among-loop-expression l = list_all (knows_all (is_other l.name)) (map expr_view (take l.expression-index l.expression-items)) ≡ true
