use Rattle.std.proofs.Common.{string_bytes}
use Rattle.std.proofs.lemmas.Result.{err_from_is_err_and}
use Rattle.serde_json.specs.View.{view}
use Rattle.gil_report.specs.Json.{report_data}
use Rattle.gil_report.specs.Lines.{report_text}
use Rattle.report_json.proofs.KeptReports.{report_kept}
use Rattle.report_json.proofs.ReadAgain.{fails_alike, lines_from}
use Rattle.report_json.proofs.reading.lines_in.Goals as goal

pub returns-in_err-report : goal.returns-in_err-report
returns-in_err-report c = λ r written is.
    let p = err_from_is_err_and c.from_residual.result c.from_residual.ensures.1 in
    rw (p.1, p.2) (fails_alike c.in_err-report.field-0.0 (report_data r) (report_text r)
    (c.in_err-report.ensures.again (report_data r) (report_kept r 123 written) is))

pub returns : goal.returns
returns c = λ r written is.
    lines_from string_bytes c.lines_of.result (view c.in_ok-report.report) r (c.in_ok-report.ensures.again (report_data r) (report_kept r 123 written) is)
    c.lines_of.ensures
