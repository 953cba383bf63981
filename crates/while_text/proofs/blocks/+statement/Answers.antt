use Rattle.std.proofs.Common.{sym, ◌∙◌, ◌≡◌, ◌∷◌, [], ◌++◌, ℕ, List}
use Rattle.std.proofs.lemmas.Result.{err_from_is_err_and}
use Rattle.gil_lexer.specs.declared.signs.Sign.TheVariants.{RightBrace}
use Rattle.gil_lexer.specs.declared.forms.Token.{Token}
use Rattle.gil_lexemes.specs.declared.standing.Lexeme.{Lexeme}
use Rattle.gil_lexemes.specs.Reading.{Reading}
use Rattle.gil_lexemes.proofs.ListReading.{each_goes_on, each_stops, each_ends, each_is_done}
use Rattle.gil_grammar.specs.Texts.{byte_before}
use Rattle.while_lang.specs.Pure.{PurePlacedStatement}
use Rattle.while_lang.specs.View.{placed_view, placed_statements_view}
use Rattle.while_grammar.specs.Reading.Statements.{placed_at, statement_at, block_at}
use Rattle.while_text.proofs.blocks.+statement.Goals as goal

-- how one statement is read
abbrev reads : List Token → ℕ → List Lexeme → Reading PurePlacedStatement
reads tokens inner = placed_at (byte_before tokens) (statement_at (block_at (byte_before tokens) inner))

pub statements_at-returns-then-is_at : goal.statements_at-returns-then-is_at
statements_at-returns-then-is_at t c =
    each_ends (reads c.args.tokens.now c.args.inner) (placed_statements_view c.loop.list) c.left-most.result c.loop.counter RightBrace c.loop.rest _
    c.loop-test.true (sym c.is_at.ensures ∙ c.if-is_at.true) c.loop.invariant

pub statements_at-returns-in_err-placed : goal.statements_at-returns-in_err-placed
statements_at-returns-in_err-placed t c =
    let p = err_from_is_err_and c.from_residual.result c.from_residual.ensures.1 in
    rw (p.1, p.2) (each_stops (reads c.args.tokens.now c.args.inner) (placed_statements_view c.loop.list) c.left-most.result c.loop.counter RightBrace c.loop.rest _
    c.in_err-placed.field-0.0 c.loop-test.true (sym c.is_at.ensures ∙ c.if-is_at.false) c.in_err-placed.ensures c.loop.invariant)

pub statements_at-loop-preserved : goal.statements_at-loop-preserved
statements_at-loop-preserved t c =
    let e : placed_statements_view c.push.new.self ≡ placed_statements_view c.loop.list ++ placed_view c.in_ok-placed.placed ∷ [] = c.in_ok-push.ensures.ok in
    rw e (each_goes_on (reads c.args.tokens.now c.args.inner) (placed_statements_view c.loop.list) c.left-most.result c.loop.counter RightBrace c.loop.rest _
    (placed_view c.in_ok-placed.placed) c.in_ok-placed.behind c.loop-test.true (sym c.is_at.ensures ∙ c.if-is_at.false) c.in_ok-placed.ensures c.loop.invariant)

pub statements_at-returns : goal.statements_at-returns
statements_at-returns t c =
    each_is_done (reads c.args.tokens.now c.args.inner) (placed_statements_view c.loop.list) c.left-most.result c.loop.counter RightBrace c.loop.rest _ c.loop-test.false c.loop.invariant
