use Rattle.std.proofs.Common.{sym, ap, ◌∙◌}
use Rattle.std.specs.Option.{option_map}
use Rattle.gil_syntax.specs.Program.{prog_view}
use Rattle.gil_syntax.specs.View.{numbered_command_view}
use Rattle.checked_paths.specs.Causes.{bound}
use Rattle.spec_exploration.proofs.exploration.cut.Goals as goal

pub returns : goal.returns
returns g c =
    let at = sym c.command_of.ensures.command ∙ ap (option_map (λ n. numbered_command_view n.now)) c.in-Some.is in
    (c.in_ok-place.place, (c.in_ok-place.ensures (prog_view c.args.prog.now) at, ap bound c.in_ok-shown.ensures))
