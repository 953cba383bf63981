use Rattle.std.proofs.Common.{◌≡◌, rules}
use Rattle.gil_syntax.specs.Program.{prog_view}
use Rattle.syntax_print.specs.Programs.{printed_program}
use Rattle.gil_print.proofs.Renumbering.{renumbered_valid}
use Rattle.gil_print.proofs.Texts.{printed_spells}
use Rattle.gil_print.proofs.printing.print_prog.Goals as goal

pub returns-clause-again : goal.returns-clause-again
returns-clause-again c =
    let printed : c.into_bytes.result.items ≡ printed_program (prog_view c.args.prog.now) = search rules in
    λ h. printed_spells (prog_view c.args.prog.now) _ printed h

pub returns-clause-valid : goal.returns-clause-valid
returns-clause-valid c = renumbered_valid (prog_view c.args.prog.now) c.args.prog.now.valid
