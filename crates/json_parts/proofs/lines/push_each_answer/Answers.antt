use Rattle.std.proofs.Common.{◌++◌, ◌+◌, ap, ◌∙◌, sym, arith, drop, option_map, string_bytes}
use Rattle.std.proofs.lemmas.Result.{err_from_is_err_and}
use Rattle.std.proofs.lemmas.List.{drop_all}
use Rattle.serde_json.specs.View.{items_view, view}
use Rattle.json_parts.specs.Lines.{answers}
use Rattle.json_parts.proofs.Elements.{rest_begins}
use Rattle.json_parts.proofs.Followed.{answer_more, no_answer_more, no_answers}
use Rattle.json_parts.proofs.lines.push_each_answer.Goals as goal

pub returns-in_err-push_answer : goal.returns-in_err-push_answer
returns-in_err-push_answer c =
    let p = err_from_is_err_and c.from_residual.result c.from_residual.ensures.1 in
    let i = c.loop-answer.answer-index in
    let here = rest_begins c.args.answers.now i c.answer-item.result (omega arith) c.answer-item.is in
    rw (p.1, p.2) (no_answer_more c.in_err-push_answer.field-0.0 (view c.answer-item.result) (items_view (drop (i + 1) c.args.answers.now))
    (string_bytes c.loop-answer.out) (string_bytes c.args.out.now) _ c.in_err-push_answer.ensures
    (ap (λ ds. option_map (λ x. string_bytes c.loop-answer.out ++ x) (answers ds)) (sym here) ∙ c.loop-answer.invariant))

pub loop-answer-preserved : goal.loop-answer-preserved
loop-answer-preserved c =
    let i = c.loop-answer.answer-index in
    let here = rest_begins c.args.answers.now i c.answer-item.result (omega arith) c.answer-item.is in
    answer_more (view c.answer-item.result) (items_view (drop (i + 1) c.args.answers.now)) (string_bytes c.loop-answer.out) _ c.in_ok-push_answer.ensures
    ∙ ap (λ ds. option_map (λ x. string_bytes c.loop-answer.out ++ x) (answers ds)) (sym here) ∙ c.loop-answer.invariant

pub returns : goal.returns
returns c =
    no_answers (string_bytes c.loop-answer.out) _
    (ap (λ vs. option_map (λ x. string_bytes c.loop-answer.out ++ x) (answers (items_view vs))) (sym (drop_all c.loop-answer.answer-index c.args.answers.now (omega arith)))
    ∙ c.loop-answer.invariant)
