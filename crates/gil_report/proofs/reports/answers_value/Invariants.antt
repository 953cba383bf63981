use Rattle.std.proofs.Common.{◌≡◌, map, take}
use Rattle.serde_json.specs.View.{view}
use Rattle.gil_report.specs.Json.{answer_data}
use Rattle.gil_report.specs.View.{answer_view}
use Rattle.gil_report.proofs.reports.answers_value.Given as goal

abbrev pub invariant-loop-answer : goal.invariant-loop-answer
invariant-loop-answer l = map view l.list.items ≡ map answer_data (map answer_view (take l.answer-index l.answers))
