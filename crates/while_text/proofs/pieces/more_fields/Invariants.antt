use Rattle.std.proofs.Common.{◌≡◌, length, ◌-◌, map}
use Rattle.gil_lexer.specs.declared.signs.Sign.TheVariants as signs
use Rattle.gil_lexemes.specs.Lists.{more_at, with_front}
use Rattle.while_lang.specs.View.{field_view}
use Rattle.while_grammar.specs.Reading.Statements.{field_at}
use Rattle.while_text.proofs.pieces.more_fields.Given as goal

abbrev pub invariant-loop : goal.invariant-loop
invariant-loop l =
    with_front (map field_view l.list) (more_at field_at (l.most - l.counter) signs.Comma l.rest)
    ≡ with_front (map field_view l.fn.list) (more_at field_at (length l.fn.cursor) signs.Comma l.fn.cursor)
