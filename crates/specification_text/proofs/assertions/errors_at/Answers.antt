use Rattle.std.proofs.Common.{sym, ap, ◌∙◌, ◌≡◌, ◌∷◌, [], ◌++◌, length, map, Bool, true, false, not}
use Rattle.std.proofs.lemmas.List.{map_push}
use Rattle.std.proofs.lemmas.Result.{err_from_is_err_and}
use Rattle.gil_syntax.specs.View.{assertion_view, item_view}
use Rattle.value_text.proofs.Many.{goes_on, fails, ends, is_done}
use Rattle.specification_text.specs.Reading.{before_no_error, error_at}
use Rattle.specification_text.proofs.assertions.errors_at.Goals as goal

pub returns-then-not-has_word : goal.returns-then-not-has_word
returns-then-not-has_word c =
    ends before_no_error error_at (map assertion_view c.loop.errors) (length c.args.bytes.now) c.loop.counter c.loop.rest.now _
    c.loop-test.true (ap not (sym c.has_word.ensures ∙ c.if-not-has_word.true)) c.loop.invariant

pub returns-in_err-error : goal.returns-in_err-error
returns-in_err-error c =
    let p = err_from_is_err_and c.from_residual.result c.from_residual.ensures.1 in
    rw (p.1, p.2) (fails before_no_error error_at (map assertion_view c.loop.errors) (length c.args.bytes.now) c.loop.counter c.loop.rest.now _
    c.in_err-error.field-0.0 c.loop-test.true (ap not (sym c.has_word.ensures ∙ c.if-not-has_word.false)) c.in_err-error.ensures c.loop.invariant)

pub loop-preserved : goal.loop-preserved
loop-preserved c =
    let e : map assertion_view c.push.new.self ≡ map assertion_view c.loop.errors ++ assertion_view c.in_ok-error.error ∷ [] =
    ap (map assertion_view) c.in_ok-push.ensures.ok ∙ map_push assertion_view c.loop.errors c.in_ok-error.error in
    rw e (goes_on before_no_error error_at (map assertion_view c.loop.errors) (length c.args.bytes.now) c.loop.counter c.loop.rest.now _
    (assertion_view c.in_ok-error.error) c.in_ok-error.behind.now c.loop-test.true (ap not (sym c.has_word.ensures ∙ c.if-not-has_word.false))
    c.in_ok-error.ensures c.loop.invariant)

pub returns : goal.returns
returns c =
    is_done before_no_error error_at (map assertion_view c.loop.errors) (length c.args.bytes.now) c.loop.counter c.loop.rest.now _ c.loop-test.false c.loop.invariant
