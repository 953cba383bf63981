use Rattle.std.proofs.Common.{map, ◌∙◌}
use Rattle.gil_syntax.specs.Programs.{find_spec}
use Rattle.gil_syntax.specs.Valid.{logicals_of_spec}
use Rattle.gil_syntax.specs.View.{numbered_command_view}
use Rattle.gil_syntax.specs.ByName.{parts_of}
use Rattle.gil_syntax.proofs.PieceLemmas.{misused_commands}
use Rattle.gil_syntax.proofs.arities.proc_has_wrong_arity.Goals as goal

pub returns : goal.returns
returns c =
    let p = parts_of c.args.program.now in
    c.in_body.ensures ∙ misused_commands p (logicals_of_spec (find_spec p.specs c.args.proc.now.name)) (map numbered_command_view c.args.proc.now.body)
