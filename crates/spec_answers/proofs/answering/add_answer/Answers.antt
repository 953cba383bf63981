use Rattle.std.proofs.Common.{◌≡◌, List, [], ◌∷◌, ◌++◌, length, slice_get, Some, None, sym, ap, ◌∙◌}
use Rattle.spec_answers.specs.declared.answers.SpecAnswer.{SpecAnswer}
use Rattle.spec_answers.specs.Answering.{answer_of, answers_of}
use Rattle.spec_answers.proofs.Places.{one_more, none_more}
use Rattle.spec_answers.proofs.answering.add_answer.Goals as goal

pub returns-in_ok-push-in-Some : goal.returns-in_ok-push-in-Some
returns-in_ok-push-in-Some g c = λ xs same.
    let es = c.args.entries.now in
    let x = c.args.examined in
    let e = c.in-Some.entry.now in
    let at : slice_get es (length (answers_of xs es)) ≡ Some e =
    ap (slice_get es) (sym (ap length same) ∙ sym c.len.ensures) ∙ sym c.in-Some.ensures in
    let made : c.in_ok-answer_of-in-Some.field-0 ≡ answer_of x e = c.in_ok-answer_of-in-Some.ensures in
    c.in_ok-push-in-Some.ensures.ok
    ∙ ap (λ (ys : List (SpecAnswer g.row.C.Denot)). ys ++ c.in_ok-answer_of-in-Some.field-0 ∷ []) same
    ∙ ap (λ (a : SpecAnswer g.row.C.Denot). answers_of xs es ++ a ∷ []) made ∙ sym (one_more xs es x e at)

pub returns-in-None : goal.returns-in-None
returns-in-None g c = λ xs same.
    let es = c.args.entries.now in
    let at : slice_get es (length (answers_of xs es)) ≡ None =
    ap (slice_get es) (sym (ap length same) ∙ sym c.len.ensures) ∙ sym c.in-None.ensures in
    same ∙ sym (none_more xs es c.args.examined at)
