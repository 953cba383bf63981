use Rattle.std.proofs.Common.{◌≡◌, ◌+◌, ◌*◌, map, take}
use Rattle.gil_syntax.specs.View.{exprs_view}
use Rattle.pure_terms.specs.Pure.{from_list, size, sizes}
use Rattle.pure_terms.specs.View.{term_view, terms_view}
use Rattle.assertion_terms.specs.Named.{expr_of}
use Rattle.assertion_terms.proofs.naming.+name.Given as goal

abbrev pub decreases-expression_of : goal.decreases-expression_of
decreases-expression_of l = 2 * size (term_view l.term.now)

abbrev pub decreases-expressions_of : goal.decreases-expressions_of
decreases-expressions_of l = 2 * sizes (from_list (terms_view l.terms.now)) + 1

abbrev pub invariant-expressions_of-loop-term : goal.invariant-expressions_of-loop-term
invariant-expressions_of-loop-term l = exprs_view l.list ≡ map (expr_of l.names) (map term_view (take l.term-index l.term-items))
