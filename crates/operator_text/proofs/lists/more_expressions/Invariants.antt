use Rattle.std.proofs.Common.{◌≡◌, length, ◌-◌, map}
use Rattle.gil_lexer.specs.declared.signs.Sign.TheVariants as signs
use Rattle.gil_lexemes.specs.Lists.{more_at, with_front}
use Rattle.source_operators.specs.View.{expression_view}
use Rattle.operator_text.specs.PieceReading.{whole_at}
use Rattle.operator_text.proofs.lists.more_expressions.Given as goal

abbrev pub invariant-loop : goal.invariant-loop
invariant-loop g l =
    with_front (map expression_view l.list) (more_at (whole_at g.L.OperatorLanguage.signs) (l.most - l.counter) signs.Comma l.rest)
    ≡ with_front (map expression_view l.fn.list) (more_at (whole_at g.L.OperatorLanguage.signs) (length l.fn.cursor) signs.Comma l.fn.cursor)
