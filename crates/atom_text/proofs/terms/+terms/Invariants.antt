use Rattle.std.proofs.Common.{◌≡◌, ◌+◌, ◌*◌, drop}
use Rattle.gil_syntax.proofs.ExpressionLemmas.{node_count, nodes_count}
use Rattle.gil_syntax.specs.Pure.{from_list}
use Rattle.gil_syntax.specs.View.{expr_view, exprs_view}
use Rattle.pure_terms.specs.View.{terms_view}
use Rattle.atom_text.specs.Resolving.{variable_in, terms_of}
use Rattle.atom_text.proofs.Lists.{rest_of}
use Rattle.atom_text.proofs.terms.+terms.Given as goal

abbrev pub decreases-term_of : goal.decreases-term_of
decreases-term_of l = 2 * node_count (expr_view l.expression.now)

abbrev pub decreases-terms_of : goal.decreases-terms_of
decreases-terms_of l = 2 * nodes_count (exprs_view l.expressions.now) + 1

abbrev pub invariant-terms_of-loop-expression : goal.invariant-terms_of-loop-expression
invariant-terms_of-loop-expression l =
    rest_of (variable_in l.variables) (terms_view l.terms) (drop l.expression-index (exprs_view l.fn.expressions))
    ≡ terms_of (variable_in l.variables) (from_list (exprs_view l.fn.expressions))
