use Rattle.std.proofs.Common.{sym, ap, ◌∙◌, ◌≡◌, ◌∷◌, [], ◌++◌, length, map}
use Rattle.std.proofs.lemmas.List.{map_push}
use Rattle.std.proofs.lemmas.Result.{err_from_is_err_and}
use Rattle.value_text.proofs.Many.{goes_on, fails, ends, is_done}
use Rattle.gil_report.specs.View.{answer_view}
use Rattle.report_text.specs.Reading.{is_at_end, answer_at}
use Rattle.report_text.proofs.reading.lines_at.Goals as goal

pub returns-then-is_at_end : goal.returns-then-is_at_end
returns-then-is_at_end c =
    ends is_at_end answer_at (map answer_view c.loop.answers) (length c.args.bytes.now) c.loop.counter c.loop.rest.now _
    c.loop-test.true (sym c.is_at_end.ensures ∙ c.if-is_at_end.true) c.loop.invariant

pub returns-in_err-answer : goal.returns-in_err-answer
returns-in_err-answer c =
    let p = err_from_is_err_and c.from_residual.result c.from_residual.ensures.1 in
    rw (p.1, p.2) (fails is_at_end answer_at (map answer_view c.loop.answers) (length c.args.bytes.now) c.loop.counter c.loop.rest.now _
    c.in_err-answer.field-0.0 c.loop-test.true (sym c.is_at_end.ensures ∙ c.if-is_at_end.false) c.in_err-answer.ensures c.loop.invariant)

pub loop-preserved : goal.loop-preserved
loop-preserved c =
    let e : map answer_view c.push.new.self ≡ map answer_view c.loop.answers ++ answer_view c.in_ok-answer.answer ∷ [] =
    ap (map answer_view) c.in_ok-push.ensures.ok ∙ map_push answer_view c.loop.answers c.in_ok-answer.answer in
    rw e (goes_on is_at_end answer_at (map answer_view c.loop.answers) (length c.args.bytes.now) c.loop.counter c.loop.rest.now _
    (answer_view c.in_ok-answer.answer) c.in_ok-answer.behind.now c.loop-test.true (sym c.is_at_end.ensures ∙ c.if-is_at_end.false)
    c.in_ok-answer.ensures c.loop.invariant)

pub returns : goal.returns
returns c =
    is_done is_at_end answer_at (map answer_view c.loop.answers) (length c.args.bytes.now) c.loop.counter c.loop.rest.now _ c.loop-test.false c.loop.invariant
