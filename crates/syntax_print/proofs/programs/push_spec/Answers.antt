use Rattle.std.proofs.Common.{◌++◌, string_bytes, ap, ◌∙◌}
use Rattle.syntax_print.proofs.Forms.{spec_added}
use Rattle.syntax_print.proofs.programs.push_spec.Goals as goal

pub returns : goal.returns
returns c =
    spec_added _ _ _ _ _ _ _ _ _ _ _ _ _ _ _ _
    c.in_ok-push_str.ensures.bytes
    (c.in_ok-push_str-2.ensures.bytes ∙ ap (λ text. string_bytes c.push_str.new.self ++ text) c.as_str.ensures.characters)
    c.in_ok-push_str-3.ensures.bytes
    c.in_ok-push_params.ensures
    c.in_ok-push_str-4.ensures.bytes
    c.in_ok-push_variables.ensures
    c.in_ok-push_str-5.ensures.bytes
    c.in_ok-push_block.ensures
    c.in_ok-push_posts.ensures
    c.in_ok-push_str-6.ensures.bytes
