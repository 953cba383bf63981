use Rattle.std.proofs.Common.{◌++◌, string_bytes, ap, ◌∙◌}
use Rattle.gil_report.proofs.Added.{spec_added}
use Rattle.gil_report.proofs.specifications.SpecPrint.print.Goals as goal

pub returns : goal.returns
returns c =
    spec_added _ _ _ _ _ _ _ _ _ _ _ _ _ _ _ _ _ c.in_ok-push_str.ensures.bytes
    (c.in_ok-push_str-2.ensures.bytes ∙ ap (λ name. string_bytes c.push_str.new.self ++ name) c.as_str.ensures.characters)
    c.in_ok-push_str-3.ensures.bytes c.in_ok-push_params.ensures c.in_ok-push_str-4.ensures.bytes c.in_ok-push_variables.ensures
    c.in_ok-push_str-5.ensures.bytes c.in_ok-push_block.ensures c.in_ok-push_blocks.ensures c.in_ok-push_blocks-2.ensures
