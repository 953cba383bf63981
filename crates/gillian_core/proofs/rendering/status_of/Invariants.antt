use Rattle.std.proofs.Common.{◌≡◌, map, take, true}
use Rattle.std.specs.List.{list_all}
use Rattle.gil_report.specs.View.{answer_view}
use Rattle.gillian_core.specs.Outputs.{is_good}
use Rattle.gillian_core.proofs.rendering.status_of.Given as goal

abbrev pub invariant-loop-answer : goal.invariant-loop-answer
invariant-loop-answer l = list_all is_good (take l.answer-index (map answer_view l.answers)) ≡ true
