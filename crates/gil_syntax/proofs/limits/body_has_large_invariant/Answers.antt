use Rattle.std.proofs.Common.{sym, ap, ◌∙◌}
use Rattle.std.specs.List.{list_any}
use Rattle.gil_syntax.specs.Valid.{has_many_variables}
use Rattle.gil_syntax.specs.View.{command_view, numbered_command_view}
use Rattle.gil_syntax.proofs.BodyLemmas.{list_any-map}
use Rattle.gil_syntax.proofs.limits.body_has_large_invariant.Goals as goal

pub returns : goal.returns
returns c =
    c.has_large_invariant.ensures
    ∙ ap (list_any (λ d. has_many_variables (command_view d.command))) c.as_slice.ensures
    ∙ sym (list_any-map (λ d. has_many_variables d.command) numbered_command_view c.args.body.now)
