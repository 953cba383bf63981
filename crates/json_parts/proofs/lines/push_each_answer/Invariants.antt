use Rattle.std.proofs.Common.{◌≡◌, ◌++◌, drop, option_map, string_bytes}
use Rattle.serde_json.specs.View.{items_view}
use Rattle.json_parts.specs.Lines.{answers}
use Rattle.json_parts.proofs.lines.push_each_answer.Given as goal

abbrev pub invariant-loop-answer : goal.invariant-loop-answer
invariant-loop-answer l =
    option_map (λ x. string_bytes l.out ++ x) (answers (items_view (drop l.answer-index l.answers)))
    ≡ option_map (λ x. string_bytes l.fn.out ++ x) (answers (items_view l.answers))
