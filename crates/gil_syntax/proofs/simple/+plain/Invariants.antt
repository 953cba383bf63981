use Rattle.std.proofs.Common.{◌≡◌, ◌+◌, ◌*◌, map, take, true}
use Rattle.std.specs.List.{list_all}
use Rattle.gil_syntax.specs.Simple.{is_plain_value}
use Rattle.gil_syntax.specs.View.{expr_view, exprs_view}
use Rattle.gil_syntax.proofs.ExpressionLemmas.{node_count, nodes_count}
use Rattle.gil_syntax.proofs.simple.+plain.Given as goal

abbrev pub decreases-is_plain_value : goal.decreases-is_plain_value
decreases-is_plain_value l = 2 * node_count (expr_view l.value.now)

abbrev pub decreases-are_plain_values : goal.decreases-are_plain_values
decreases-are_plain_values l = 2 * nodes_count (exprs_view l.values.now) + 1

abbrev pub invariant-are_plain_values-loop-value : goal.invariant-are_plain_values-loop-value
invariant-are_plain_values-loop-value l = list_all is_plain_value (map expr_view (take l.value-index l.value-items)) ≡ true
