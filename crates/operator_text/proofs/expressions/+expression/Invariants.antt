use Rattle.std.proofs.Common.{◌≡◌, length, ◌+◌, ◌-◌, ◌*◌}
use Rattle.source_operators.specs.View.{expression_view}
use Rattle.operator_text.specs.Reading.{expression_at, more_at}
use Rattle.operator_text.proofs.expressions.+expression.Given as goal

abbrev pub decreases-expression_at : goal.decreases-expression_at
decreases-expression_at g l = 8 * l.most

abbrev pub decreases-single_at : goal.decreases-single_at
decreases-single_at g l = 8 * l.inner + 4

abbrev pub decreases-bracketed_at : goal.decreases-bracketed_at
decreases-bracketed_at g l = 8 * l.inner + 3

abbrev pub decreases-address_at : goal.decreases-address_at
decreases-address_at g l = 8 * l.inner + 3

abbrev pub decreases-prefixed_at : goal.decreases-prefixed_at
decreases-prefixed_at g l = 8 * l.inner + 3

abbrev pub decreases-index_at : goal.decreases-index_at
decreases-index_at g l = 8 * l.inner + 3

abbrev pub decreases-side_at : goal.decreases-side_at
decreases-side_at g l = 8 * l.inner + 4

abbrev pub decreases-more_at : goal.decreases-more_at
decreases-more_at g l = 8 * l.inner + 5

abbrev pub invariant-more_at-loop : goal.invariant-more_at-loop
invariant-more_at-loop g l =
    more_at g.L.OperatorLanguage.signs (expression_at g.L.OperatorLanguage.signs l.fn.inner) (l.most - l.counter) l.fn.least (expression_view l.left) l.rest
    ≡ more_at g.L.OperatorLanguage.signs (expression_at g.L.OperatorLanguage.signs l.fn.inner) (length l.fn.cursor) l.fn.least (expression_view l.fn.left) l.fn.cursor
