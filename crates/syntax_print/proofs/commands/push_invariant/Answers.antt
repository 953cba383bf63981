use Rattle.syntax_print.proofs.Forms.{invariant_added}
use Rattle.syntax_print.proofs.commands.push_invariant.Goals as goal

pub returns : goal.returns
returns c =
    invariant_added _ _ _ _ _ _ _ _ _ _
    c.in_ok-push_str.ensures.bytes
    c.in_ok-push_names.ensures
    c.in_ok-push_str-2.ensures.bytes
    c.in_ok-push_variables.ensures
    c.in_ok-push_str-3.ensures.bytes
    c.in_ok-push_block.ensures
