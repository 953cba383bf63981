use Rattle.std.proofs.Common.{not, ◌&&◌, ap, ◌∙◌}
use Rattle.std.specs.List.{list_all}
use Rattle.gil_syntax.specs.Subexpressions.{exprs_of, uses_of}
use Rattle.gil_syntax.specs.View.{command_view}
use Rattle.gil_syntax.specs.WellMade.{is_well_made_expr}
use Rattle.gil_syntax.proofs.WellMadeLemmas.{all_made}
use Rattle.gil_syntax.proofs.well_made.is_well_made_command.Goals as goal

pub returns-then-has_well_made_names : goal.returns-then-has_well_made_names
returns-then-has_well_made_names c =
    let seen = command_view c.args.command.now in
    ap not c.in_command.ensures ∙ all_made (exprs_of seen) (uses_of seen) ∙ ap (λ b. b && list_all is_well_made_expr (exprs_of seen)) c.if-has_well_made_names.ensures
