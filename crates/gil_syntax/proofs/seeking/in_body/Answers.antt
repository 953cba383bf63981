use Rattle.std.proofs.Common.{sym, ◌∙◌}
use Rattle.gil_syntax.specs.View.{numbered_command_view}
use Rattle.gil_syntax.specs.Found.{stands_in_command}
use Rattle.gil_syntax.proofs.ExpressionLemmas.{read_seen, list_any-element}
use Rattle.gil_syntax.proofs.seeking.in_body.Goals as goal

pub returns-then-in_command : goal.returns-then-in_command
returns-then-in_command g c =
    let command = read_seen numbered_command_view _ _ c.loop-numbered.numbered-index _ c.as_slice-numbered-items.ensures c.loop-numbered-test.true c.numbered-item.is in
    sym (list_any-element (stands_in_command (g.S.Sought.is_node c.args.sought.now) (g.S.Sought.is_use c.args.sought.now)) _ c.loop-numbered.numbered-index _ command (sym c.in_command.ensures ∙ c.if-in_command.true))
