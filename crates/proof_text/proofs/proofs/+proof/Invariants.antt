use Rattle.std.proofs.Common.{◌≡◌, length, ℕ, ◌+◌, ◌-◌, ◌*◌}
use Rattle.gil_report.specs.View.{named_proofs_view}
use Rattle.value_text.specs.Reading.{with_front, many_at, before_no_comma, behind_comma}
use Rattle.proof_text.specs.Reading.{proof_at}
use Rattle.proof_text.proofs.proofs.+proof.Given as goal

abbrev pub decreases-nested_at : goal.decreases-nested_at
decreases-nested_at l = 9 * l.most

abbrev pub decreases-worded_at : goal.decreases-worded_at
decreases-worded_at l = 9 * l.inner + 8

abbrev pub decreases-parted_at : goal.decreases-parted_at
decreases-parted_at l = 9 * l.inner + 7

abbrev pub decreases-cases_at : goal.decreases-cases_at
decreases-cases_at l = 9 * l.inner + 6

abbrev pub decreases-values_at : goal.decreases-values_at
decreases-values_at l = 9 * l.inner + 6

abbrev pub decreases-differ_at : goal.decreases-differ_at
decreases-differ_at l = 9 * l.inner + 6

abbrev pub decreases-parts_at : goal.decreases-parts_at
decreases-parts_at l = 9 * l.inner + 6

abbrev pub decreases-elements_of : goal.decreases-elements_of
decreases-elements_of l = 9 * l.inner + 5

abbrev pub decreases-from_elements_at : goal.decreases-from_elements_at
decreases-from_elements_at l = 9 * l.inner + 4

abbrev pub decreases-split_at : goal.decreases-split_at
decreases-split_at l = 9 * l.inner + 6

abbrev pub decreases-branches_at : goal.decreases-branches_at
decreases-branches_at l = 9 * l.inner + 5

abbrev pub decreases-elements_at : goal.decreases-elements_at
decreases-elements_at l = 9 * l.inner + 3

abbrev pub decreases-more_at : goal.decreases-more_at
decreases-more_at l = 9 * l.inner + 2

abbrev pub decreases-next_at : goal.decreases-next_at
decreases-next_at l = 9 * l.inner + 1

abbrev pub invariant-more_at-loop : goal.invariant-more_at-loop
invariant-more_at-loop l =
    with_front (named_proofs_view l.items) (many_at before_no_comma (behind_comma (proof_at l.inner)) (l.most - l.counter) l.rest)
    ≡ with_front (named_proofs_view l.fn.items) (many_at before_no_comma (behind_comma (proof_at l.inner)) (length l.fn.bytes) l.fn.bytes)
