use Rattle.std.proofs.Common.{◌≡◌, length, ◌-◌}
use Rattle.gil_syntax.specs.View.{item_view, assertion_view}
use Rattle.gil_grammar.specs.Reading.Assertions as read
use Rattle.gil_lexer.specs.declared.signs.Sign.TheVariants as signs
use Rattle.gil_lexemes.specs.Lists.{more_at, with_front}
use Rattle.gil_text.proofs.assertions.more_items.Given as goal

abbrev pub invariant-loop : goal.invariant-loop
invariant-loop l =
    with_front (assertion_view l.list) (more_at read.item_at (l.most - l.counter) signs.Star l.rest)
    ≡ with_front (assertion_view l.fn.list) (more_at read.item_at (length l.fn.cursor) signs.Star l.fn.cursor)
