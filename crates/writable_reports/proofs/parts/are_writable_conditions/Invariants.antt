use Rattle.std.proofs.Common.{◌≡◌, drop, map}
use Rattle.std.specs.List.{list_all}
use Rattle.gil_report.specs.View.{condition_view}
use Rattle.writable_reports.specs.Tests.{is_writable_condition}
use Rattle.writable_reports.proofs.parts.are_writable_conditions.Given as goal

abbrev pub invariant-loop-condition : goal.invariant-loop-condition
invariant-loop-condition l = list_all is_writable_condition (map condition_view (drop l.condition-index l.conditions)) ≡ list_all is_writable_condition (map condition_view l.conditions)
