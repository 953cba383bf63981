use Rattle.std.proofs.Common.{sym, ap, ◌∙◌}
use Rattle.gil_syntax.specs.Valid.{has_fault, a_proc}
use Rattle.gil_syntax.specs.View.{proc_view}
use Rattle.gil_syntax.specs.ByName.{parts_of}
use Rattle.gil_syntax.specs.Items.{before_proc}
use Rattle.gil_syntax.proofs.checking.proc_has_fault.Goals as goal

pub returns-in-TooMany : goal.returns-in-TooMany
returns-in-TooMany c =
    let p = parts_of c.args.program.now in
    c.proc_is_too_many.ensures p c.requires.within ∙ ap (λ k. has_fault k p (before_proc p c.args.place) (a_proc (proc_view c.args.proc.now))) (sym c.in-TooMany.is)
