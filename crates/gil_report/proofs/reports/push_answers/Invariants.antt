use Rattle.std.proofs.Common.{◌≡◌, ◌++◌, map, take, string_bytes}
use Rattle.std.specs.List.{flat_map}
use Rattle.gil_report.specs.Lines.{answer_line}
use Rattle.gil_report.specs.View.{answer_view}
use Rattle.gil_report.proofs.reports.push_answers.Given as goal

abbrev pub invariant-loop-answer : goal.invariant-loop-answer
invariant-loop-answer l = string_bytes l.out ≡ string_bytes l.fn.out ++ flat_map answer_line (map answer_view (take l.answer-index l.answers))
