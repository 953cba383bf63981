use Rattle.std.proofs.Common.{◌∙◌, sym}
use Rattle.std.proofs.lemmas.Bool.{true≢false}
use Rattle.std.proofs.lemmas.Result.{err_from_is_err_and}
use Rattle.report_text.proofs.WritableSays.{report_says}
use Rattle.report_text.proofs.ReportLaws.{read_again, refused_again, other_again}
use Rattle.report_text.proofs.reading.read_report.Goals as goal

pub returns-then-are_same-clause-lines : goal.returns-then-are_same-clause-lines
returns-then-are_same-clause-lines c = sym (c.are_same.ensures.0 c.if-are_same.true) ∙ c.as_slice.ensures.value ∙ c.in_ok-lines.ensures

pub returns-then-are_same-clause-writable : goal.returns-then-are_same-clause-writable
returns-then-are_same-clause-writable c = report_says _ _ c.in_ok-report.ensures

pub returns-then-are_same-clause-again : goal.returns-then-are_same-clause-again
returns-then-are_same-clause-again c = λ r written is. read_again _ _ r c.in_ok-report.ensures written is

pub returns-in_err-report-clause-again : goal.returns-in_err-report-clause-again
returns-in_err-report-clause-again c = λ r written is.
    let p = err_from_is_err_and c.from_residual.result c.from_residual.ensures.1 in
    rw (p.1, p.2) (refused_again c.in_err-report.field-0.0 c.args.bytes.now r c.in_err-report.ensures written is)

pub returns-else-are_same-clause-again : goal.returns-else-are_same-clause-again
returns-else-are_same-clause-again c = λ r written is.
    other_again c.args.bytes.now c.as_slice.result.now _ r c.in_ok-report.ensures (c.as_slice.ensures.value ∙ c.in_ok-lines.ensures)
    (λ e. true≢false (sym (c.are_same.ensures.1 e) ∙ c.if-are_same.false)) written is
