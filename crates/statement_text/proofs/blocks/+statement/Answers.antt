use Rattle.std.proofs.Common.{sym, ◌∙◌, ◌≡◌, ◌∷◌, [], ◌++◌, ℕ, List, arith}
use Rattle.std.proofs.lemmas.Result.{err_from_is_err_and}
use Rattle.gil_lexer.specs.declared.signs.Sign.TheVariants.{RightBrace}
use Rattle.gil_lexer.specs.declared.forms.Token.{Token}
use Rattle.gil_lexemes.specs.declared.standing.Lexeme.{Lexeme}
use Rattle.gil_lexemes.specs.Reading.{Reading}
use Rattle.gil_lexemes.proofs.ListReading.{each_goes_on, each_stops, each_ends, each_is_done}
use Rattle.gil_grammar.specs.Texts.{byte_before}
use Rattle.source_statements.specs.Pure.{PurePlacedStatement}
use Rattle.source_statements.specs.View.{placed_view, placed_statements_view}
use Rattle.statement_text.specs.Reading.{Readers, placed_at, statement_at, block_at}
use Rattle.statement_text.proofs.BlockReading.{no_block, block_opens}
use Rattle.statement_text.proofs.Seen.{one_more_seen}
use Rattle.statement_text.proofs.blocks.+statement.Goals as goal

-- how one statement is read
abbrev reads : {E S : Type 0} → Readers E S → List Token → ℕ → List Lexeme → Reading (PurePlacedStatement E S)
reads r tokens inner = placed_at r (byte_before tokens) (statement_at r (block_at r (byte_before tokens) inner))

pub block_at-returns : goal.block_at-returns
block_at-returns g t c =
    rw (block_opens g.L.StatementReader.readers (byte_before c.args.tokens.now) c.args.most c.args.cursor (omega (arith, c.if-most-eq0.false))) c.braced_at.ensures

pub statements_at-returns-then-is_at : goal.statements_at-returns-then-is_at
statements_at-returns-then-is_at g t c =
    each_ends (reads g.L.StatementReader.readers c.args.tokens.now c.args.inner)
    (placed_statements_view g.L.StatementReader.expression_view g.L.StatementReader.simple_view c.loop.list) c.left-most.result c.loop.counter RightBrace c.loop.rest _
    c.loop-test.true (sym c.is_at.ensures ∙ c.if-is_at.true) c.loop.invariant

pub statements_at-returns-in_err-placed : goal.statements_at-returns-in_err-placed
statements_at-returns-in_err-placed g t c =
    let p = err_from_is_err_and c.from_residual.result c.from_residual.ensures.1 in
    rw (p.1, p.2) (each_stops (reads g.L.StatementReader.readers c.args.tokens.now c.args.inner)
    (placed_statements_view g.L.StatementReader.expression_view g.L.StatementReader.simple_view c.loop.list) c.left-most.result c.loop.counter RightBrace c.loop.rest _
    c.in_err-placed.field-0.0 c.loop-test.true (sym c.is_at.ensures ∙ c.if-is_at.false) c.in_err-placed.ensures c.loop.invariant)

pub statements_at-loop-preserved : goal.statements_at-loop-preserved
statements_at-loop-preserved g t c =
    let e : placed_statements_view g.L.StatementReader.expression_view g.L.StatementReader.simple_view c.push.new.self
    ≡ placed_statements_view g.L.StatementReader.expression_view g.L.StatementReader.simple_view c.loop.list
    ++ placed_view g.L.StatementReader.expression_view g.L.StatementReader.simple_view c.in_ok-placed.placed ∷ []
    = one_more_seen g.L.StatementReader.expression_view g.L.StatementReader.simple_view c.loop.list c.push.new.self c.in_ok-placed.placed c.in_ok-push.ensures.ok in
    rw e (each_goes_on (reads g.L.StatementReader.readers c.args.tokens.now c.args.inner)
    (placed_statements_view g.L.StatementReader.expression_view g.L.StatementReader.simple_view c.loop.list) c.left-most.result c.loop.counter RightBrace c.loop.rest _
    (placed_view g.L.StatementReader.expression_view g.L.StatementReader.simple_view c.in_ok-placed.placed) c.in_ok-placed.behind c.loop-test.true
    (sym c.is_at.ensures ∙ c.if-is_at.false) c.in_ok-placed.ensures c.loop.invariant)

pub statements_at-returns : goal.statements_at-returns
statements_at-returns g t c =
    each_is_done (reads g.L.StatementReader.readers c.args.tokens.now c.args.inner)
    (placed_statements_view g.L.StatementReader.expression_view g.L.StatementReader.simple_view c.loop.list) c.left-most.result c.loop.counter RightBrace c.loop.rest _
    c.loop-test.false c.loop.invariant

pub block_at-returns-then-most-eq0 : goal.block_at-returns-then-most-eq0
block_at-returns-then-most-eq0 g t c = no_block g.L.StatementReader.readers (byte_before c.args.tokens.now) c.args.most c.args.cursor (omega (arith, c.if-most-eq0.true))
