use Rattle.std.proofs.Common.{◌≡◌, length, ℕ, ◌+◌, ◌-◌, ◌*◌, ◌<◌, ◌≤◌}
use Rattle.gil_values.specs.View.{values_view}
use Rattle.value_text.specs.Reading as spec
use Rattle.value_text.specs.Reading.{with_front, many_at, before_no_comma, behind_comma}
use Rattle.value_text.proofs.values.+value.Given as goal

abbrev pub decreases-nested_at : goal.decreases-nested_at
decreases-nested_at l = 5 * l.most

abbrev pub decreases-list_at : goal.decreases-list_at
decreases-list_at l = 5 * l.inner + 4

abbrev pub decreases-elements_at : goal.decreases-elements_at
decreases-elements_at l = 5 * l.inner + 3

abbrev pub decreases-more_values : goal.decreases-more_values
decreases-more_values l = 5 * l.inner + 2

abbrev pub decreases-next_at : goal.decreases-next_at
decreases-next_at l = 5 * l.inner + 1

abbrev pub invariant-more_values-loop : goal.invariant-more_values-loop
invariant-more_values-loop l =
    with_front (values_view l.list) (many_at before_no_comma (behind_comma (spec.value_at l.inner)) (l.most - l.counter) l.rest)
    ≡ with_front (values_view l.fn.list) (many_at before_no_comma (behind_comma (spec.value_at l.inner)) (length l.fn.bytes) l.fn.bytes)
