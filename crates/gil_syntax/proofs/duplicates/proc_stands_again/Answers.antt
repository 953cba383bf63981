use Rattle.std.proofs.Common.{sym, ◌∙◌}
use Rattle.std.proofs.Math.Bool.{or-false}
use Rattle.gil_syntax.specs.View.{proc_view}
use Rattle.gil_syntax.specs.ByName.{parts_of}
use Rattle.gil_syntax.proofs.DuplicateLemmas.{procs_before, told}
use Rattle.gil_syntax.proofs.duplicates.proc_stands_again.Goals as goal

pub returns : goal.returns
returns c =
    c.stands_before.ensures
    ∙ told _ _ c.args.proc.now.name c.as_str.result.now c.args.place c.requires.procs c.as_str.ensures.characters
    ∙ procs_before (parts_of c.args.program.now) (proc_view c.args.proc.now) c.args.place
    ∙ sym (or-false _)
