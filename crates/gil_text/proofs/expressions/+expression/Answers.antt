use Rattle.std.proofs.Common.{sym, ◌∙◌, ◌≡◌, ◌∷◌, [], ◌++◌}
use Rattle.std.proofs.lemmas.Result.{err_from_is_err_and}
use Rattle.gil_lexer.specs.declared.signs.Sign.TheVariants as signs
use Rattle.gil_lexemes.proofs.ListReading.{more_goes_on, more_stops, more_ends, more_is_done}
use Rattle.gil_syntax.specs.View.{expr_view, exprs_view}
use Rattle.gil_grammar.specs.Reading.Expressions as read
use Rattle.gil_text.proofs.expressions.+expression.Goals as goal

pub more_exprs-returns-then-not-is_at : goal.more_exprs-returns-then-not-is_at
more_exprs-returns-then-not-is_at t c =
    more_ends (read.expr_at c.args.inner c.args.position) (exprs_view c.loop.list) c.left-most.result c.loop.counter signs.Comma c.loop.rest _
    c.loop-test.true (sym c.is_at.ensures ∙ c.if-not-is_at.true) c.loop.invariant

pub more_exprs-returns-in_err-expression : goal.more_exprs-returns-in_err-expression
more_exprs-returns-in_err-expression t c =
    let p = err_from_is_err_and c.from_residual.result c.from_residual.ensures.1 in
    rw (p.1, p.2) (more_stops (read.expr_at c.args.inner c.args.position) (exprs_view c.loop.list) c.left-most.result c.loop.counter signs.Comma c.loop.rest _
    c.in_err-expression.field-0.0 c.loop-test.true (sym c.is_at.ensures ∙ c.if-not-is_at.false) (rw c.behind.ensures at c.in_err-expression.ensures) c.loop.invariant)

pub more_exprs-loop-preserved : goal.more_exprs-loop-preserved
more_exprs-loop-preserved t c =
    let e : exprs_view c.push.new.self ≡ exprs_view c.loop.list ++ expr_view c.in_ok-expression.expression ∷ [] = c.in_ok-push.ensures.ok in
    rw e (more_goes_on (read.expr_at c.args.inner c.args.position) (exprs_view c.loop.list) c.left-most.result c.loop.counter signs.Comma c.loop.rest _
    (expr_view c.in_ok-expression.expression) c.in_ok-expression.behind c.loop-test.true (sym c.is_at.ensures ∙ c.if-not-is_at.false)
    (rw c.behind.ensures at c.in_ok-expression.ensures) c.loop.invariant)

pub more_exprs-returns : goal.more_exprs-returns
more_exprs-returns t c =
    more_is_done (read.expr_at c.args.inner c.args.position) (exprs_view c.loop.list) c.left-most.result c.loop.counter signs.Comma c.loop.rest _ c.loop-test.false c.loop.invariant
