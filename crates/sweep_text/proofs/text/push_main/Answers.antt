use Rattle.std.proofs.Common.{ap, ◌∙◌, ◌++◌, string_bytes}
use Rattle.std.specs.List.{flat_map, range_with_len}
use Rattle.sweep_text.specs.Made.{call_line}
use Rattle.sweep_text.proofs.Ranges.{three_added}
use Rattle.sweep_text.proofs.text.push_main.Goals as goal

pub returns : goal.returns
returns c =
    three_added _ _ _ _ _ _ _ c.in_ok-push_str.ensures.bytes
    (c.in_ok-push_calls.ensures ∙ ap (λ n. string_bytes c.push_str.new.self ++ flat_map call_line (range_with_len 0 n)) c.function_count.ensures)
    c.in_ok-push_end.ensures
