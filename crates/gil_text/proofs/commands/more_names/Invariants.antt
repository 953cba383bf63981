use Rattle.std.proofs.Common.{◌≡◌, length, ◌-◌}
use Rattle.gil_lexemes.specs.Reading.{name_at}
use Rattle.gil_lexer.specs.declared.signs.Sign.TheVariants as signs
use Rattle.gil_lexemes.specs.Lists.{more_at, with_front}
use Rattle.gil_text.proofs.commands.more_names.Given as goal

abbrev pub invariant-loop : goal.invariant-loop
invariant-loop l =
    with_front l.list (more_at name_at (l.most - l.counter) signs.Comma l.rest)
    ≡ with_front l.fn.list (more_at name_at (length l.fn.cursor) signs.Comma l.fn.cursor)
