-- Bytes that are a report, in either of its forms.
use Rattle.std.specs.Prelude.{◌≡◌, ◌⊎◌, ℕ, List}
use Rattle.gil_report.specs.Json.{report_json}
use Rattle.gil_report.specs.Lines.{report_text}
use Rattle.gil_report.specs.Pure.{PureReport}
use Rattle.report_text.specs.Writable.{IsWritable}

-- the lines or the JSON text of some writable report
abbrev pub IsReport : List ℕ → Type 0
IsReport bytes = (r : PureReport) × IsWritable r × ((bytes ≡ report_text r) ⊎ (bytes ≡ report_json r))
