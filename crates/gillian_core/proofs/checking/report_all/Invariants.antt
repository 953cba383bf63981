use Rattle.std.proofs.Common.{map}
use Rattle.gil_report.specs.View.{answer_view}
use Rattle.gil_syntax.specs.View.{spec_view}
use Rattle.gillian_core.proofs.Checked.{ReportsUntil}
use Rattle.gillian_core.proofs.checking.report_all.Given as goal

abbrev pub invariant-loop-place : goal.invariant-loop-place
invariant-loop-place l = ReportsUntil (map spec_view l.specs-2) l.answers l.place (map answer_view l.reported)
