use Rattle.std.proofs.Common.{◌≡◌, length, ℕ, ◌+◌, ◌-◌, ◌*◌, ◌<◌, ◌≤◌}
use Rattle.gil_lexer.specs.declared.signs.Sign.TheVariants as signs
use Rattle.gil_lexemes.specs.Lists.{more_at, with_front}
use Rattle.gil_syntax.specs.View.{exprs_view}
use Rattle.gil_grammar.specs.Reading.Expressions as read
use Rattle.gil_text.proofs.expressions.+expression.Given as goal

abbrev pub decreases-bracketed_at : goal.decreases-bracketed_at
decreases-bracketed_at l = 6 * l.inner + 5

abbrev pub decreases-expr_at : goal.decreases-expr_at
decreases-expr_at l = 6 * l.brackets

abbrev pub decreases-exprs_at : goal.decreases-exprs_at
decreases-exprs_at l = 6 * l.inner + 2

abbrev pub decreases-infix_at : goal.decreases-infix_at
decreases-infix_at l = 6 * l.inner + 3

abbrev pub decreases-list_at : goal.decreases-list_at
decreases-list_at l = 6 * l.inner + 3

abbrev pub decreases-more_exprs : goal.decreases-more_exprs
decreases-more_exprs l = 6 * l.inner + 1

abbrev pub decreases-nth_at : goal.decreases-nth_at
decreases-nth_at l = 6 * l.inner + 3

abbrev pub decreases-unary_at : goal.decreases-unary_at
decreases-unary_at l = 6 * l.inner + 3

abbrev pub decreases-word_bracketed : goal.decreases-word_bracketed
decreases-word_bracketed l = 6 * l.inner + 4

abbrev pub invariant-more_exprs-loop : goal.invariant-more_exprs-loop
invariant-more_exprs-loop l =
    with_front (exprs_view l.list) (more_at (read.expr_at l.inner l.position) (l.most - l.counter) signs.Comma l.rest)
    ≡ with_front (exprs_view l.fn.list) (more_at (read.expr_at l.inner l.position) (length l.fn.cursor) signs.Comma l.fn.cursor)
