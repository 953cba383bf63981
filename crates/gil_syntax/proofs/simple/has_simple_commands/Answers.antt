use Rattle.std.proofs.Common.{sym, ◌∙◌}
use Rattle.gil_syntax.specs.Simple.{is_simple_command}
use Rattle.gil_syntax.specs.View.{numbered_command_view}
use Rattle.gil_syntax.proofs.ExpressionLemmas.{read_seen}
use Rattle.gil_syntax.proofs.SimpleLemmas.{list_all-element}
use Rattle.gil_syntax.proofs.simple.has_simple_commands.Goals as goal

pub returns-then-not-is_simple_command : goal.returns-then-not-is_simple_command
returns-then-not-is_simple_command c =
    let command = read_seen numbered_command_view _ _ c.loop-numbered.numbered-index _ c.as_slice-numbered-items.ensures c.loop-numbered-test.true c.numbered-item.is in
    sym (list_all-element (λ d. is_simple_command d.command) _ c.loop-numbered.numbered-index _ command (sym c.is_simple_command.ensures ∙ c.if-not-is_simple_command.true))
