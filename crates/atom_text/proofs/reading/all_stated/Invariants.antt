use Rattle.std.proofs.Common.{◌≡◌, length, map, ◌-◌}
use Rattle.atom_text.specs.Reading.{with_read, all_at, stated_at}
use Rattle.atom_text.specs.Sources.{stated_view}
use Rattle.atom_text.proofs.reading.all_stated.Given as goal

abbrev pub invariant-loop : goal.invariant-loop
invariant-loop l =
    with_read (map stated_view l.list) (all_at (stated_at l.tokens) (l.most - l.counter) l.rest)
    ≡ all_at (stated_at l.tokens) (length l.fn.cursor) l.fn.cursor
