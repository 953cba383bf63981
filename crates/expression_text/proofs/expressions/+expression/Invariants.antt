use Rattle.std.proofs.Common.{◌≡◌, length, ℕ, ◌+◌, ◌-◌, ◌*◌}
use Rattle.gil_syntax.specs.View.{exprs_view}
use Rattle.value_text.specs.Reading.{with_front, many_at, before_no_comma, behind_comma}
use Rattle.expression_text.specs.Reading.{expression_at}
use Rattle.expression_text.proofs.expressions.+expression.Given as goal

abbrev pub decreases-nested_at : goal.decreases-nested_at
decreases-nested_at l = 8 * l.most

abbrev pub decreases-opened_at : goal.decreases-opened_at
decreases-opened_at l = 8 * l.inner + 7

abbrev pub decreases-named_at : goal.decreases-named_at
decreases-named_at l = 8 * l.inner + 6

abbrev pub decreases-led_at : goal.decreases-led_at
decreases-led_at l = 8 * l.inner + 5

abbrev pub decreases-unary_at : goal.decreases-unary_at
decreases-unary_at l = 8 * l.inner + 4

abbrev pub decreases-nth_at : goal.decreases-nth_at
decreases-nth_at l = 8 * l.inner + 4

abbrev pub decreases-between_at : goal.decreases-between_at
decreases-between_at l = 8 * l.inner + 4

abbrev pub decreases-list_at : goal.decreases-list_at
decreases-list_at l = 8 * l.inner + 4

abbrev pub decreases-elements_at : goal.decreases-elements_at
decreases-elements_at l = 8 * l.inner + 3

abbrev pub decreases-more_at : goal.decreases-more_at
decreases-more_at l = 8 * l.inner + 2

abbrev pub decreases-next_at : goal.decreases-next_at
decreases-next_at l = 8 * l.inner + 1

abbrev pub invariant-more_at-loop : goal.invariant-more_at-loop
invariant-more_at-loop l =
    with_front (exprs_view l.items) (many_at before_no_comma (behind_comma (expression_at l.inner)) (l.most - l.counter) l.rest)
    ≡ with_front (exprs_view l.fn.items) (many_at before_no_comma (behind_comma (expression_at l.inner)) (length l.fn.bytes) l.fn.bytes)
