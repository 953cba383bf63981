use Rattle.std.proofs.Common.{◌≡◌, length, ◌-◌}
use Rattle.gil_lexer.specs.declared.signs.Sign.TheVariants as signs
use Rattle.gil_lexemes.specs.Lists.{more_at, with_front}
use Rattle.atom_text.specs.Reading.{declaration_at}
use Rattle.atom_text.proofs.reading.more_declarations.Given as goal

abbrev pub invariant-loop : goal.invariant-loop
invariant-loop l =
    with_front l.list (more_at (declaration_at l.tokens) (l.most - l.counter) signs.Comma l.rest)
    ≡ with_front l.fn.list (more_at (declaration_at l.tokens) (length l.fn.cursor) signs.Comma l.fn.cursor)
