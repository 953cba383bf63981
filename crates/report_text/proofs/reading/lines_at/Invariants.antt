use Rattle.std.proofs.Common.{◌≡◌, ◌-◌, map}
use Rattle.value_text.specs.Reading.{with_front, many_at}
use Rattle.gil_report.specs.View.{answer_view}
use Rattle.report_text.specs.Reading as spec
use Rattle.report_text.proofs.reading.lines_at.Given as goal

abbrev pub invariant-loop : goal.invariant-loop
invariant-loop l = with_front (map answer_view l.answers) (many_at spec.is_at_end spec.answer_at (l.most - l.counter) l.rest) ≡ spec.lines_at l.bytes
