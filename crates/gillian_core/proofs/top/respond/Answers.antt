use Rattle.std.proofs.Common.{Err, [], ap, refl, sym, inr, ◌∙◌, arith}
use Rattle.gillian_words.specs.View.{request_view}
use Rattle.gillian_core.specs.declared.status.Status.TheVariants as status
use Rattle.gillian_core.specs.Outcomes.{read_failed, out_of_memory}
use Rattle.gillian_core.proofs.Ending.{ends_of_finish, ends_of_answer, within_read}
use Rattle.gillian_core.proofs.Ending.{answer_not_too_large, consumes_nothing, false_and_true, never_unread, read_for, unread_answered, unread_for}
use Rattle.gillian_core.proofs.top.respond.Goals as goal

-- ---- ends

pub returns-in-Err-Refused-clause-ends : goal.returns-in-Err-Refused-clause-ends
returns-in-Err-Refused-clause-ends g c =
    ends_of_finish _ status.Words c.finish_line.result _ ((λ fit. c.in-Err-Refused.ensures.refused (ap Err c.in-Err-Refused.field-0-is) fit.0 fit.1), refl) c.finish_line.ensures

pub returns-in-Err-Memory-clause-ends : goal.returns-in-Err-Memory-clause-ends
returns-in-Err-Memory-clause-ends g c = out_of_memory refl

pub returns-then-not-reads_source-clause-ends : goal.returns-then-not-reads_source-clause-ends
returns-then-not-reads_source-clause-ends g c =
    let unread = sym c.reads_source.ensures ∙ c.if-not-reads_source.true in
    ends_of_answer _ (request_view c.in-Ok.request) c.in-Ok.ensures.asked (unread_for _ _ unread refl refl) []
    (λ reads. absurd (false_and_true _ unread reads)) _ c.answer.ensures

pub returns-in-Ok-read_all-clause-ends : goal.returns-in-Ok-read_all-clause-ends
returns-in-Ok-read_all-clause-ends g c =
    let reads = sym c.reads_source.ensures ∙ c.if-not-reads_source.false in
    ends_of_answer _ (request_view c.in-Ok.request) c.in-Ok.ensures.asked
    (read_for _ _ reads record {
      fit = (request_view c.in-Ok.request, c.in-Ok.ensures.asked);
      end = c.in-Ok-read_all.ensures.at_end;
      within = within_read _ c.in-Ok-read_all.bytes.items _ c.in-Ok-read_all.ensures.whole c.in-Ok-read_all.ensures.within;
    })
    c.in-Ok-read_all.bytes.items (λ is. c.in-Ok-read_all.ensures.whole) _ (rw c.deref.ensures.value at c.answer-in-Ok-read_all.ensures)

pub returns-in-Err-ReadFault-clause-ends : goal.returns-in-Err-ReadFault-clause-ends
returns-in-Err-ReadFault-clause-ends g c = read_failed (c.in-Err-ReadFault.ensures.read_fault (ap Err c.in-Err-ReadFault.field-0-is)) refl

pub returns-in-Err-TooLarge-clause-ends : goal.returns-in-Err-TooLarge-clause-ends
returns-in-Err-TooLarge-clause-ends g c =
    let taken = c.in-Err-TooLarge.ensures.taken in
    ends_of_finish _ status.TooLarge _ _
    ((request_view c.in-Ok.request, c.in-Ok.ensures.asked), (taken.0, taken.1, taken.2.0 (ap Err c.in-Err-TooLarge.field-0-is)), refl) c.finish_line-in-Err-TooLarge.ensures

pub returns-clause-ends : goal.returns-clause-ends
returns-clause-ends g c = out_of_memory refl

-- ---- what is done without a text

pub returns-then-not-reads_source-clause-too_large : goal.returns-then-not-reads_source-clause-too_large
returns-then-not-reads_source-clause-too_large g c = (
  [],
  consumes_nothing _,
  (
    λ is. absurd (answer_not_too_large (request_view c.in-Ok.request) [] _ _ c.answer.ensures is),
    λ more. absurd (omega (arith, more)),
  ),
)

pub returns-in-Err-Refused-clause-unread : goal.returns-in-Err-Refused-clause-unread
returns-in-Err-Refused-clause-unread g c = λ q asked unread. absurd (c.in-Err-Refused.ensures.refused (ap Err c.in-Err-Refused.field-0-is) q asked)

pub returns-in-Err-Memory-clause-unread : goal.returns-in-Err-Memory-clause-unread
returns-in-Err-Memory-clause-unread g c = λ q asked unread. (inr (inr refl), refl)

pub returns-then-not-reads_source-clause-unread : goal.returns-then-not-reads_source-clause-unread
returns-then-not-reads_source-clause-unread g c =
    let unread = sym c.reads_source.ensures ∙ c.if-not-reads_source.true in
    λ q asked is. (unread_answered (request_view c.in-Ok.request) [] _ _ unread c.answer.ensures, refl)

pub returns-in-Ok-read_all-clause-unread : goal.returns-in-Ok-read_all-clause-unread
returns-in-Ok-read_all-clause-unread g c =
    let reads = sym c.reads_source.ensures ∙ c.if-not-reads_source.false in
    λ q asked is. absurd (never_unread _ (c.words_ask_for_one_thing.ensures _) (request_view c.in-Ok.request) c.in-Ok.ensures.asked reads q asked is)

pub returns-in-Err-ReadFault-clause-unread : goal.returns-in-Err-ReadFault-clause-unread
returns-in-Err-ReadFault-clause-unread g c =
    let reads = sym c.reads_source.ensures ∙ c.if-not-reads_source.false in
    λ q asked is. absurd (never_unread _ (c.words_ask_for_one_thing.ensures _) (request_view c.in-Ok.request) c.in-Ok.ensures.asked reads q asked is)

pub returns-in-Err-TooLarge-clause-unread : goal.returns-in-Err-TooLarge-clause-unread
returns-in-Err-TooLarge-clause-unread g c =
    let reads = sym c.reads_source.ensures ∙ c.if-not-reads_source.false in
    λ q asked is. absurd (never_unread _ (c.words_ask_for_one_thing.ensures _) (request_view c.in-Ok.request) c.in-Ok.ensures.asked reads q asked is)

pub returns-clause-unread : goal.returns-clause-unread
returns-clause-unread g c =
    let reads = sym c.reads_source.ensures ∙ c.if-not-reads_source.false in
    λ q asked is. absurd (never_unread _ (c.words_ask_for_one_thing.ensures _) (request_view c.in-Ok.request) c.in-Ok.ensures.asked reads q asked is)
