-- What holds of all writable reports.
use Rattle.std.specs.Prelude.{◌≡◌}
use Rattle.gil_report.specs.Lines.{report_text}
use Rattle.gil_report.specs.Pure.{PureReport}
use Rattle.report_text.specs.Writable.{IsWritable}

-- Writable reports with the same lines are one.
abbrev pub PrintingTellsReports : Type 0
PrintingTellsReports = (r s : PureReport) → IsWritable r → IsWritable s → report_text r ≡ report_text s → r ≡ s
