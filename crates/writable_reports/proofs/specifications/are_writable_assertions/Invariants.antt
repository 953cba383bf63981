use Rattle.std.proofs.Common.{◌≡◌, drop, map}
use Rattle.std.specs.List.{list_all}
use Rattle.gil_syntax.specs.View.{assertion_view}
use Rattle.writable_reports.specs.Tests.{is_writable_assertion}
use Rattle.writable_reports.proofs.specifications.are_writable_assertions.Given as goal

abbrev pub invariant-loop-assertion : goal.invariant-loop-assertion
invariant-loop-assertion l = list_all is_writable_assertion (map assertion_view (drop l.assertion-index l.assertions)) ≡ list_all is_writable_assertion (map assertion_view l.assertions)
