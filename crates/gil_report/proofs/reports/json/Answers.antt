use Rattle.std.proofs.Common.{◌++◌, ap, ◌∙◌}
use Rattle.std.specs.Prelude.{codes}
use Rattle.serde_json.specs.Written.{compact_text, has_float}
use Rattle.gil_report.specs.View.{report_view}
use Rattle.gil_report.proofs.Plain.{report_plain}
use Rattle.gil_report.proofs.reports.json.Goals as goal

pub returns : goal.returns
returns c =
    let plain = ap has_float c.in_ok-value.ensures ∙ report_plain (report_view c.args.report.now) in
    let written = c.in_ok-out.ensures.text plain ∙ ap compact_text c.in_ok-value.ensures in
    ap (λ bytes. bytes.items) c.into_bytes.ensures.value ∙ c.in_ok-push_str.ensures.bytes ∙ ap (λ text. text ++ codes "\n") written
