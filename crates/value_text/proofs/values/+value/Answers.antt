use Rattle.std.proofs.Common.{sym, ◌∙◌, ◌≡◌, ◌∷◌, [], ◌++◌, length}
use Rattle.std.proofs.lemmas.Result.{err_from_is_err_and}
use Rattle.gil_values.specs.View.{value_view, values_view}
use Rattle.value_text.specs.Reading as spec
use Rattle.value_text.specs.Reading.{before_no_comma, behind_comma}
use Rattle.value_text.proofs.Many.{goes_on, fails, ends, is_done}
use Rattle.value_text.proofs.values.+value.Goals as goal

pub more_values-returns-then-ends_elements : goal.more_values-returns-then-ends_elements
more_values-returns-then-ends_elements t c =
    ends before_no_comma (behind_comma (spec.value_at c.args.inner)) (values_view c.loop.list) (length c.args.bytes.now) c.loop.counter c.loop.rest.now _
    c.loop-test.true (sym c.ends_elements.ensures ∙ c.if-ends_elements.true) c.loop.invariant

pub more_values-returns-in_err-value : goal.more_values-returns-in_err-value
more_values-returns-in_err-value t c =
    let p = err_from_is_err_and c.from_residual.result c.from_residual.ensures.1 in
    rw (p.1, p.2) (fails before_no_comma (behind_comma (spec.value_at c.args.inner)) (values_view c.loop.list) (length c.args.bytes.now) c.loop.counter c.loop.rest.now _
    c.in_err-value.field-0.0 c.loop-test.true (sym c.ends_elements.ensures ∙ c.if-ends_elements.false) c.in_err-value.ensures c.loop.invariant)

pub more_values-loop-preserved : goal.more_values-loop-preserved
more_values-loop-preserved t c =
    let e : values_view c.push.new.self ≡ values_view c.loop.list ++ value_view c.in_ok-value.value ∷ [] = c.in_ok-push.ensures.ok in
    rw e (goes_on before_no_comma (behind_comma (spec.value_at c.args.inner)) (values_view c.loop.list) (length c.args.bytes.now) c.loop.counter c.loop.rest.now _
    (value_view c.in_ok-value.value) c.in_ok-value.behind.now c.loop-test.true (sym c.ends_elements.ensures ∙ c.if-ends_elements.false)
    c.in_ok-value.ensures c.loop.invariant)

pub more_values-returns : goal.more_values-returns
more_values-returns t c =
    is_done before_no_comma (behind_comma (spec.value_at c.args.inner)) (values_view c.loop.list) (length c.args.bytes.now) c.loop.counter c.loop.rest.now _ c.loop-test.false c.loop.invariant
