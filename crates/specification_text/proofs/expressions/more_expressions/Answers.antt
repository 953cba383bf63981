use Rattle.std.proofs.Common.{sym, ◌∙◌, ◌≡◌, ◌∷◌, [], ◌++◌, length}
use Rattle.std.proofs.lemmas.Result.{err_from_is_err_and}
use Rattle.gil_syntax.specs.View.{expr_view, exprs_view}
use Rattle.value_text.specs.Reading.{before_no_comma, behind_comma}
use Rattle.value_text.proofs.Many.{goes_on, fails, ends, is_done}
use Rattle.expression_text.specs.Reading.{any_expression_at}
use Rattle.specification_text.proofs.expressions.more_expressions.Goals as goal

pub returns-then-ends_elements : goal.returns-then-ends_elements
returns-then-ends_elements c =
    ends before_no_comma (behind_comma any_expression_at) (exprs_view c.loop.items) (length c.args.bytes.now) c.loop.counter c.loop.rest.now _
    c.loop-test.true (sym c.ends_elements.ensures ∙ c.if-ends_elements.true) c.loop.invariant

pub returns-in_err-item : goal.returns-in_err-item
returns-in_err-item c =
    let p = err_from_is_err_and c.from_residual.result c.from_residual.ensures.1 in
    rw (p.1, p.2) (fails before_no_comma (behind_comma any_expression_at) (exprs_view c.loop.items) (length c.args.bytes.now) c.loop.counter c.loop.rest.now _
    c.in_err-item.field-0.0 c.loop-test.true (sym c.ends_elements.ensures ∙ c.if-ends_elements.false) c.in_err-item.ensures c.loop.invariant)

pub loop-preserved : goal.loop-preserved
loop-preserved c =
    let e : exprs_view c.push.new.self ≡ exprs_view c.loop.items ++ expr_view c.in_ok-item.item ∷ [] = c.in_ok-push.ensures.ok in
    rw e (goes_on before_no_comma (behind_comma any_expression_at) (exprs_view c.loop.items) (length c.args.bytes.now) c.loop.counter c.loop.rest.now _
    (expr_view c.in_ok-item.item) c.in_ok-item.behind.now c.loop-test.true (sym c.ends_elements.ensures ∙ c.if-ends_elements.false)
    c.in_ok-item.ensures c.loop.invariant)

pub returns : goal.returns
returns c =
    is_done before_no_comma (behind_comma any_expression_at) (exprs_view c.loop.items) (length c.args.bytes.now) c.loop.counter c.loop.rest.now _ c.loop-test.false c.loop.invariant
