use Rattle.std.proofs.Common.{◌≡◌, length, ◌-◌, map}
use Rattle.gil_lexemes.specs.Lists.{with_front}
use Rattle.gil_syntax.specs.View.{assertion_view}
use Rattle.gil_grammar.specs.Reading.Assertions as read
use Rattle.gil_text.proofs.blocks.more_blocks.Given as goal

abbrev pub invariant-loop : goal.invariant-loop
invariant-loop l =
    with_front (map assertion_view l.list) (read.more_blocks l.opening l.extent (l.most - l.counter) l.rest)
    ≡ with_front (map assertion_view l.fn.list) (read.more_blocks l.opening l.extent (length l.fn.cursor) l.fn.cursor)
