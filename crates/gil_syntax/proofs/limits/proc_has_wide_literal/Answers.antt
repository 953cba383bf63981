use Rattle.std.proofs.Common.{map, ◌∙◌}
use Rattle.gil_syntax.specs.Programs.{find_spec}
use Rattle.gil_syntax.specs.Valid.{logicals_of_spec}
use Rattle.gil_syntax.specs.View.{numbered_command_view}
use Rattle.gil_syntax.proofs.PieceLemmas.{wide_commands}
use Rattle.gil_syntax.proofs.limits.proc_has_wide_literal.Goals as goal

pub returns : goal.returns
returns c p = c.in_body.ensures ∙ wide_commands (logicals_of_spec (find_spec p.specs c.args.proc.now.name)) (map numbered_command_view c.args.proc.now.body)
