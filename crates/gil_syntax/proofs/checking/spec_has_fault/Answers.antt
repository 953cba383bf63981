use Rattle.std.proofs.Common.{sym, ap, ◌∙◌}
use Rattle.gil_syntax.specs.Valid.{has_fault, a_spec}
use Rattle.gil_syntax.specs.View.{spec_view}
use Rattle.gil_syntax.specs.ByName.{parts_of}
use Rattle.gil_syntax.specs.Items.{before_spec}
use Rattle.gil_syntax.proofs.checking.spec_has_fault.Goals as goal

pub returns-in-TooMany : goal.returns-in-TooMany
returns-in-TooMany c =
    let p = parts_of c.args.program.now in
    c.spec_is_too_many.ensures p c.requires.within ∙ ap (λ k. has_fault k p (before_spec p c.args.place) (a_spec (spec_view c.args.spec.now))) (sym c.in-TooMany.is)
