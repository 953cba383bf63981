use Rattle.std.proofs.Common.{◌++◌, string_bytes, ap, ◌∙◌}
use Rattle.gil_report.proofs.Added.{four_added}
use Rattle.gil_report.proofs.head_lines.push_check.Goals as goal

pub returns : goal.returns
returns c =
    four_added _ _ _ _ _ _ _ _ _ _ c.in_ok-push_str.ensures.bytes
    (c.in_ok-push_str-2.ensures.bytes ∙ ap (λ word. string_bytes c.push_str.new.self ++ word) c.word.ensures)
    c.in_ok-push_str-3.ensures.bytes (rw c.from.ensures at c.in_ok-push_number.ensures) c.in_ok-push_str-4.ensures.bytes
