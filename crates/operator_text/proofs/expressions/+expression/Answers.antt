use Rattle.std.proofs.Common.{sym, ◌∙◌, ◌-◌, arith}
use Rattle.std.proofs.lemmas.Result.{err_from_is_err_and}
use Rattle.source_operators.specs.View.{expression_view}
use Rattle.operator_text.specs.Reading.{expression_at}
use Rattle.operator_text.proofs.MoreLoop.{nothing_follows, weak_follows, side_fails, side_follows, all_followed}
use Rattle.operator_text.proofs.expressions.+expression.Goals as goal

pub more_at-returns-in_default : goal.more_at-returns-in_default
more_at-returns-in_default g t c =
    nothing_follows g.L.OperatorLanguage.signs (expression_at g.L.OperatorLanguage.signs c.args.inner) (c.left-most.result - c.loop.counter) c.args.least
    (expression_view c.loop.left) c.loop.rest _ (sym c.after_at.ensures ∙ c.in_default.is) c.loop.invariant

pub more_at-returns-then-strength-least : goal.more_at-returns-then-strength-least
more_at-returns-then-strength-least g t c =
    weak_follows g.L.OperatorLanguage.signs (expression_at g.L.OperatorLanguage.signs c.args.inner) (c.left-most.result - c.loop.counter) c.args.least
    (expression_view c.loop.left) c.loop.rest _ c.in-Some.after (sym c.after_at.ensures ∙ c.in-Some.is)
    (omega (arith, c.strength.ensures, c.if-strength-least.true)) c.loop.invariant

pub more_at-returns-in_err-right : goal.more_at-returns-in_err-right
more_at-returns-in_err-right g t c =
    let p = err_from_is_err_and c.from_residual.result c.from_residual.ensures.1 in
    rw (p.1, p.2) (side_fails g.L.OperatorLanguage.signs (expression_at g.L.OperatorLanguage.signs c.args.inner) c.left-most.result c.loop.counter c.args.least
    (expression_view c.loop.left) c.loop.rest _ c.in-Some.after c.loop-test.true (sym c.after_at.ensures ∙ c.in-Some.is)
    (omega (arith, c.strength.ensures, c.if-strength-least.false)) c.loop.invariant c.in_err-right.field-0.0 (rw c.behind.ensures at c.in_err-right.ensures))

pub more_at-loop-preserved : goal.more_at-loop-preserved
more_at-loop-preserved g t c =
    rw c.in_ok-left.ensures (side_follows g.L.OperatorLanguage.signs (expression_at g.L.OperatorLanguage.signs c.args.inner) c.left-most.result c.loop.counter c.args.least
    (expression_view c.loop.left) c.loop.rest _ c.in-Some.after c.loop-test.true (sym c.after_at.ensures ∙ c.in-Some.is)
    (omega (arith, c.strength.ensures, c.if-strength-least.false)) c.loop.invariant (expression_view c.in_ok-right.right) c.in_ok-right.behind
    (rw c.behind.ensures at c.in_ok-right.ensures))

pub more_at-returns : goal.more_at-returns
more_at-returns g t c =
    all_followed g.L.OperatorLanguage.signs (expression_at g.L.OperatorLanguage.signs c.args.inner) c.left-most.result c.loop.counter c.args.least
    (expression_view c.loop.left) c.loop.rest _ (omega (arith, c.loop-test.false)) c.loop.invariant
