use Rattle.std.proofs.Common.{◌≡◌, drop, map}
use Rattle.std.specs.List.{list_all}
use Rattle.gil_report.specs.View.{binding_view}
use Rattle.writable_reports.specs.Tests.{is_writable_binding}
use Rattle.writable_reports.proofs.parts.are_writable_bindings.Given as goal

abbrev pub invariant-loop-binding : goal.invariant-loop-binding
invariant-loop-binding l = list_all is_writable_binding (map binding_view (drop l.binding-index l.bindings)) ≡ list_all is_writable_binding (map binding_view l.bindings)
