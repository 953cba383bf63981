use Rattle.std.proofs.Common.{◌≡◌, ◌-◌, length, map}
use Rattle.gil_syntax.specs.View.{assertion_view, item_view}
use Rattle.value_text.specs.Reading.{with_front, many_at}
use Rattle.specification_text.specs.Reading as spec
use Rattle.specification_text.proofs.assertions.more_items.Given as goal

abbrev pub invariant-loop : goal.invariant-loop
invariant-loop l =
    with_front (map item_view l.items) (many_at spec.before_no_star spec.behind_star (l.most - l.counter) l.rest)
    ≡ with_front (map item_view l.fn.items) (many_at spec.before_no_star spec.behind_star (length l.bytes) l.bytes)
