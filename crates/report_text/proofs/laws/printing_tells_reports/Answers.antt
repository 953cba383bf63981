use Rattle.report_text.proofs.ReportLaws.{printing_tells_reports}
use Rattle.report_text.proofs.laws.printing_tells_reports.Goals as goal

pub returns : goal.returns
returns c = printing_tells_reports
