use Rattle.std.proofs.Common.{◌≡◌, ◌-◌, length, map}
use Rattle.gil_syntax.specs.View.{assertion_view, item_view}
use Rattle.value_text.specs.Reading.{with_front, many_at}
use Rattle.specification_text.specs.Reading as spec
use Rattle.specification_text.proofs.assertions.posts_at.Given as goal

abbrev pub invariant-loop : goal.invariant-loop
invariant-loop l =
    with_front (map assertion_view l.posts) (many_at spec.before_no_post spec.post_at (l.most - l.counter) l.rest)
    ≡ spec.posts_at l.bytes
