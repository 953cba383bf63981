use Rattle.std.proofs.lemmas.Bool.Decides.{Decides-at}
use Rattle.gil_report.specs.View.{report_view}
use Rattle.writable_reports.specs.Tests.{is_writable}
use Rattle.writable_reports.proofs.Decided.{report_decided}
use Rattle.writable_reports.proofs.reports.is_writable.Goals as goal

pub returns : goal.returns
returns c = Decides-at c.passes.result (is_writable (report_view c.args.report.now)) c.passes.ensures (report_decided (report_view c.args.report.now))
