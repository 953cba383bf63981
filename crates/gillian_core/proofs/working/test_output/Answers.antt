use Rattle.std.proofs.Common.{refl}
use Rattle.std.proofs.lemmas.Result.{err_from_is_err_and}
use Rattle.gillian_words.specs.Tasks.{test}
use Rattle.gil_report.specs.View.{answer_view}
use Rattle.gillian_core.proofs.Cases.{if_ok_known}
use Rattle.gillian_core.proofs.Refusing.{no_output_for_memory}
use Rattle.gillian_core.proofs.working.test_output.Goals as goal

pub returns-in_err-answer-clause-none : goal.returns-in_err-answer-clause-none
returns-in_err-answer-clause-none g c =
    let p = err_from_is_err_and c.from_residual.result c.from_residual.ensures.1 in
    rw (p.1, p.2) c.in_err-answer.ensures.none

pub returns-in_err-output-clause-none : goal.returns-in_err-output-clause-none
returns-in_err-output-clause-none g c =
    let p = err_from_is_err_and c.from_residual-in_err-output.result c.from_residual-in_err-output.ensures.1 in
    rw (p.1, p.2) (no_output_for_memory (test c.args.language c.args.entry c.args.bound.steps) c.args.bytes.now c.in_err-output.field-0.0 c.in_err-output.ensures.err)

pub returns-clause-output : goal.returns-clause-output
returns-clause-output g c =
    let built = if_ok_known c.report_of.result c.in_ok-output.output _ c.in_ok-output.ensures.ok c.report_of.ensures in
    rw built (refl, (answer_view c.in_ok-answer.answer, refl, c.in_ok-answer.ensures.verdict))
