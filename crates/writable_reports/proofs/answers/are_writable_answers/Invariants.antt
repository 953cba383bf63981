use Rattle.std.proofs.Common.{◌≡◌, drop, map}
use Rattle.std.specs.List.{list_all}
use Rattle.gil_report.specs.View.{answer_view}
use Rattle.writable_reports.specs.Tests.{is_writable_answer}
use Rattle.writable_reports.proofs.answers.are_writable_answers.Given as goal

abbrev pub invariant-loop-answer : goal.invariant-loop-answer
invariant-loop-answer l = list_all is_writable_answer (map answer_view (drop l.answer-index l.answers)) ≡ list_all is_writable_answer (map answer_view l.answers)
