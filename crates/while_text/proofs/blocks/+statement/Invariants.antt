use Rattle.std.proofs.Common.{◌≡◌, length, ◌+◌, ◌-◌, ◌*◌}
use Rattle.gil_lexer.specs.declared.signs.Sign.TheVariants as signs
use Rattle.gil_lexemes.specs.Lists.{each_until, with_front}
use Rattle.gil_grammar.specs.Texts.{byte_before}
use Rattle.while_lang.specs.View.{placed_statements_view}
use Rattle.while_grammar.specs.Reading.Statements.{placed_at, statement_at, block_at}
use Rattle.while_text.proofs.blocks.+statement.Given as goal

abbrev pub decreases-block_at : goal.decreases-block_at
decreases-block_at l = 7 * l.most

abbrev pub decreases-statements_at : goal.decreases-statements_at
decreases-statements_at l = 7 * l.inner + 6

abbrev pub decreases-placed_at : goal.decreases-placed_at
decreases-placed_at l = 7 * l.inner + 5

abbrev pub decreases-statement_at : goal.decreases-statement_at
decreases-statement_at l = 7 * l.inner + 4

abbrev pub decreases-of_word_at : goal.decreases-of_word_at
decreases-of_word_at l = 7 * l.inner + 3

abbrev pub decreases-if_at : goal.decreases-if_at
decreases-if_at l = 7 * l.inner + 2

abbrev pub decreases-while_at : goal.decreases-while_at
decreases-while_at l = 7 * l.inner + 2

abbrev pub decreases-else_at : goal.decreases-else_at
decreases-else_at l = 7 * l.inner + 1

abbrev pub invariant-statements_at-loop : goal.invariant-statements_at-loop
invariant-statements_at-loop l =
    with_front (placed_statements_view l.list) (each_until (placed_at (byte_before l.tokens) (statement_at (block_at (byte_before l.tokens) l.fn.inner))) (l.most - l.counter) signs.RightBrace l.rest)
    ≡ each_until (placed_at (byte_before l.tokens) (statement_at (block_at (byte_before l.tokens) l.fn.inner))) (length l.fn.cursor) signs.RightBrace l.fn.cursor
