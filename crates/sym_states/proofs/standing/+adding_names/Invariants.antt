use Rattle.std.proofs.Common.{◌≡◌, ◌+◌, ◌*◌, ◌++◌, map, take}
use Rattle.std.specs.List.{flat_map}
use Rattle.gil_syntax.specs.Subexpressions.{names_of}
use Rattle.gil_syntax.specs.View.{expr_view, exprs_view}
use Rattle.gil_syntax.proofs.ExpressionLemmas.{node_count, nodes_count}
use Rattle.sym_states.proofs.standing.+adding_names.Given as goal

abbrev pub decreases-add_names : goal.decreases-add_names
decreases-add_names l = 2 * node_count (expr_view l.expression.now)

abbrev pub decreases-add_all_names : goal.decreases-add_all_names
decreases-add_all_names l = 2 * nodes_count (exprs_view l.expressions.now) + 1

abbrev pub invariant-add_all_names-loop-expression : goal.invariant-add_all_names-loop-expression
invariant-add_all_names-loop-expression l = l.names ≡ l.fn.names ++ flat_map names_of (map expr_view (take l.expression-index l.expression-items))
