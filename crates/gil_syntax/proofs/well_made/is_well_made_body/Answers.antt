use Rattle.std.proofs.Common.{sym, ap, ◌∙◌}
use Rattle.std.specs.List.{list_all}
use Rattle.std.proofs.lemmas.List.Folds.{list_all-map}
use Rattle.gil_syntax.specs.View.{command_view, numbered_command_view}
use Rattle.gil_syntax.specs.WellMade.{is_well_made_command}
use Rattle.gil_syntax.proofs.well_made.is_well_made_body.Goals as goal

pub returns : goal.returns
returns c = c.are_well_made_commands.ensures ∙ ap (list_all (λ d. is_well_made_command (command_view d.command))) c.as_slice.ensures
    ∙ sym (list_all-map (λ d. is_well_made_command d.command) numbered_command_view c.args.body.now)
