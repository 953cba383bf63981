use Rattle.std.proofs.Common.{◌≡◌, ◌-◌, length, map}
use Rattle.value_text.specs.Reading.{with_front, many_at, before_no_comma, behind_comma}
use Rattle.list_text.proofs.lists.more_at.Given as goal

abbrev pub invariant-loop : goal.invariant-loop
invariant-loop g l =
    with_front (map g.R.Reader.view l.items) (many_at before_no_comma (behind_comma g.R.Reader.reading) (l.most - l.counter) l.rest)
    ≡ with_front (map g.R.Reader.view l.fn.items) (many_at before_no_comma (behind_comma g.R.Reader.reading) (length l.bytes) l.bytes)
