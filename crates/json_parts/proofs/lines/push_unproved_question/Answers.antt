use Rattle.std.proofs.Common.{string_bytes}
use Rattle.std.specs.Prelude.{codes}
use Rattle.std.proofs.lemmas.Result.{err_from_is_err_and}
use Rattle.serde_json.specs.View.{view}
use Rattle.json_parts.specs.Lines.{question, unproved_question}
use Rattle.json_parts.specs.Parts.{part_at}
use Rattle.json_parts.proofs.Followed.{first_fails, then_adds}
use Rattle.json_parts.proofs.lines.push_unproved_question.Goals as goal

pub returns-in_err-push_part_at : goal.returns-in_err-push_part_at
unfolding unproved_question
returns-in_err-push_part_at c =
    let p = err_from_is_err_and c.from_residual.result c.from_residual.ensures.1 in
    rw (p.1, p.2) (first_fails c.in_err-push_part_at.field-0.0 (part_at (codes "name") (view c.args.answer.now))
    (question (codes " unproved unknown ") (view c.args.answer.now)) c.in_err-push_part_at.ensures)

pub returns : goal.returns
unfolding unproved_question
returns c =
    then_adds (part_at (codes "name") (view c.args.answer.now)) (question (codes " unproved unknown ") (view c.args.answer.now)) c.push_question.result
    (string_bytes c.args.out.now) _ _ c.in_ok-push_part_at.ensures c.push_question.ensures
