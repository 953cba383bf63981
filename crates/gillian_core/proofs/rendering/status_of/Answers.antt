use Rattle.std.proofs.Common.{Bool, map, sym, ap, ◌∙◌, if◌then◌else◌}
use Rattle.gil_values.proofs.Lists.{slice_get-read}
use Rattle.pure_terms.proofs.ListTests.{all_more, all_fails}
use Rattle.gil_report.specs.View.{answer_view}
use Rattle.gillian_core.specs.declared.status.Status.TheVariants.{Good, Found}
use Rattle.gillian_core.specs.Outputs.{is_good}
use Rattle.gillian_core.proofs.rendering.status_of.Goals as goal

pub returns-then-not-is_good : goal.returns-then-not-is_good
returns-then-not-is_good c =
    let answers = map answer_view c.args.answers.now in
    let i = c.loop-answer.answer-index in
    let here = slice_get-read answer_view c.args.answers.now i c.answer-item.result c.loop-answer-test.true c.answer-item.is in
    let bad = sym c.is_good.ensures ∙ c.if-not-is_good.true in
    sym (ap (λ (all : Bool). if all then Good else Found) (all_fails is_good answers i (answer_view c.answer-item.result) here bad))

pub loop-answer-preserved : goal.loop-answer-preserved
loop-answer-preserved c =
    let answers = map answer_view c.args.answers.now in
    let i = c.loop-answer.answer-index in
    let here = slice_get-read answer_view c.args.answers.now i c.answer-item.result c.loop-answer-test.true c.answer-item.is in
    all_more is_good answers i (answer_view c.answer-item.result) c.loop-answer.invariant here (sym c.is_good.ensures ∙ c.if-not-is_good.false)
