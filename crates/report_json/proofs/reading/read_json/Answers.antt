use Rattle.std.proofs.Common.{◌∙◌, sym, string_bytes}
use Rattle.std.proofs.lemmas.Bool.{true≢false}
use Rattle.std.proofs.lemmas.Bool.Decides.{Decides-eqb}
use Rattle.std.proofs.lemmas.Option.{same_Some}
use Rattle.std.proofs.lemmas.Result.{err_from_is_err_and}
use Rattle.std.proofs.lemmas.Slice.Eq.{slice_eq-Decides}
use Rattle.gil_report.specs.Lines.{report_text}
use Rattle.gil_report.specs.View.{report_view}
use Rattle.report_json.proofs.ReadAgain.{fails_alike, other_again}
use Rattle.report_json.proofs.reading.read_json.Goals as goal

pub returns-in_err-lines-clause-again : goal.returns-in_err-lines-clause-again
returns-in_err-lines-clause-again c = λ r written is.
    let p = err_from_is_err_and c.from_residual.result c.from_residual.ensures.1 in
    rw (p.1, p.2) (fails_alike c.in_err-lines.field-0.0 (report_text r) r (c.in_err-lines.ensures r written is))

pub returns-in_err-report-clause-again : goal.returns-in_err-report-clause-again
returns-in_err-report-clause-again c = λ r written is.
    let p = err_from_is_err_and c.from_residual-in_err-report.result c.from_residual-in_err-report.ensures.1 in
    let lines = same_Some (report_text r) (string_bytes c.in_ok-lines.lines) (c.in_ok-lines.ensures r written is) in
    rw (p.1, p.2) (c.in_err-report.ensures.again r written (c.as_bytes.ensures.value ∙ sym lines))

pub returns-then-eq-clause-json : goal.returns-then-eq-clause-json
returns-then-eq-clause-json c =
    let same = slice_eq-Decides Decides-eqb c.as_slice.result.now c.args.bytes.now _ c.eq.ensures in
    sym (same.0 c.if-eq.true) ∙ c.as_slice.ensures.value ∙ c.in_ok-text.ensures

pub returns-then-eq-clause-writable : goal.returns-then-eq-clause-writable
returns-then-eq-clause-writable c = c.in_ok-report.ensures.writable

pub returns-then-eq-clause-again : goal.returns-then-eq-clause-again
returns-then-eq-clause-again c = λ r written is.
    let lines = same_Some (report_text r) (string_bytes c.in_ok-lines.lines) (c.in_ok-lines.ensures r written is) in
    c.in_ok-report.ensures.again r written (c.as_bytes.ensures.value ∙ sym lines)

pub returns-clause-again : goal.returns-clause-again
returns-clause-again c = λ r written is.
    let lines = same_Some (report_text r) (string_bytes c.in_ok-lines.lines) (c.in_ok-lines.ensures r written is) in
    let same = slice_eq-Decides Decides-eqb c.as_slice.result.now c.args.bytes.now _ c.eq.ensures in
    absurd (other_again c.args.bytes.now c.as_slice.result.now (report_view c.in_ok-report.report) r
    (c.in_ok-report.ensures.again r written (c.as_bytes.ensures.value ∙ sym lines)) (c.as_slice.ensures.value ∙ c.in_ok-text.ensures)
    (λ e. true≢false (sym (same.1 e) ∙ c.if-eq.false)) is)
