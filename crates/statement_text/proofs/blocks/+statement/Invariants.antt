use Rattle.std.proofs.Common.{◌≡◌, length, ◌+◌, ◌-◌, ◌*◌}
use Rattle.gil_lexer.specs.declared.signs.Sign.TheVariants as signs
use Rattle.gil_lexemes.specs.Lists.{each_until, with_front}
use Rattle.gil_grammar.specs.Texts.{byte_before}
use Rattle.source_statements.specs.View.{placed_statements_view}
use Rattle.statement_text.specs.Reading.{placed_at, statement_at, block_at}
use Rattle.statement_text.proofs.blocks.+statement.Given as goal

abbrev pub decreases-block_at : goal.decreases-block_at
decreases-block_at g l = 8 * l.most

abbrev pub decreases-braced_at : goal.decreases-braced_at
decreases-braced_at g l = 8 * l.inner + 7

abbrev pub decreases-statements_at : goal.decreases-statements_at
decreases-statements_at g l = 8 * l.inner + 6

abbrev pub decreases-placed_at : goal.decreases-placed_at
decreases-placed_at g l = 8 * l.inner + 5

abbrev pub decreases-statement_at : goal.decreases-statement_at
decreases-statement_at g l = 8 * l.inner + 4

abbrev pub decreases-of_word_at : goal.decreases-of_word_at
decreases-of_word_at g l = 8 * l.inner + 3

abbrev pub decreases-if_at : goal.decreases-if_at
decreases-if_at g l = 8 * l.inner + 2

abbrev pub decreases-while_at : goal.decreases-while_at
decreases-while_at g l = 8 * l.inner + 2

abbrev pub decreases-tried_at : goal.decreases-tried_at
decreases-tried_at g l = 8 * l.inner + 2

abbrev pub decreases-try_at : goal.decreases-try_at
decreases-try_at g l = 8 * l.inner + 1

abbrev pub decreases-else_at : goal.decreases-else_at
decreases-else_at g l = 8 * l.inner + 1

abbrev pub invariant-statements_at-loop : goal.invariant-statements_at-loop
invariant-statements_at-loop g l =
    with_front (placed_statements_view g.L.StatementReader.expression_view g.L.StatementReader.simple_view l.list)
    (each_until (placed_at g.L.StatementReader.readers (byte_before l.tokens)
    (statement_at g.L.StatementReader.readers (block_at g.L.StatementReader.readers (byte_before l.tokens) l.fn.inner))) (l.most - l.counter) signs.RightBrace l.rest)
    ≡ each_until (placed_at g.L.StatementReader.readers (byte_before l.tokens)
    (statement_at g.L.StatementReader.readers (block_at g.L.StatementReader.readers (byte_before l.tokens) l.fn.inner))) (length l.fn.cursor) signs.RightBrace l.fn.cursor
