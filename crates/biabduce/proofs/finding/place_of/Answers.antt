use Rattle.std.proofs.Common.{sym, ap, ◌∙◌}
use Rattle.std.specs.Option.{option_map}
use Rattle.std.proofs.lemmas.Result.{IfOk-weaker}
use Rattle.gil_syntax.specs.Program.{prog_view}
use Rattle.gil_syntax.specs.View.{numbered_command_view}
use Rattle.biabduce.proofs.finding.place_of.Goals as goal

pub returns : goal.returns
returns c =
    IfOk-weaker c.place_at.result _ _
    (λ place at. at (prog_view c.args.prog.now) (sym c.command_of.ensures ∙ ap (option_map (λ n. numbered_command_view n.now)) c.in-Some.is)) c.place_at.ensures
