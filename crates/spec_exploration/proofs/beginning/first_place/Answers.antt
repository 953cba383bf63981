use Rattle.std.proofs.Common.{sym, ap, ◌∙◌}
use Rattle.std.specs.Option.{option_map}
use Rattle.gil_syntax.specs.View.{numbered_command_view}
use Rattle.spec_exploration.proofs.Taking.{some_is_not_none}
use Rattle.spec_exploration.proofs.beginning.first_place.Goals as goal

pub unreachable-requires : goal.unreachable-requires
unreachable-requires c = some_is_not_none _ c.requires (sym c.first_command.ensures ∙ ap (option_map (λ n. numbered_command_view n.now)) c.in-None.is)

pub returns : goal.returns
returns c = (
  numbered_command_view c.in-Some.numbered.now,
  (sym c.first_command.ensures ∙ ap (option_map (λ n. numbered_command_view n.now)) c.in-Some.is, ap (λ proc. record { proc = proc; at = c.in-Some.numbered.now.at }) c.in_ok-proc.ensures),
)
