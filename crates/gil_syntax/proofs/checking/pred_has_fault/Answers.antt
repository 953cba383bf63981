use Rattle.std.proofs.Common.{sym, ap, ◌∙◌}
use Rattle.gil_syntax.specs.Valid.{has_fault, a_pred}
use Rattle.gil_syntax.specs.View.{pred_def_view}
use Rattle.gil_syntax.specs.ByName.{parts_of}
use Rattle.gil_syntax.specs.Items.{before_pred}
use Rattle.gil_syntax.proofs.checking.pred_has_fault.Goals as goal

pub returns-in-TooMany : goal.returns-in-TooMany
returns-in-TooMany c =
    let p = parts_of c.args.program.now in
    c.pred_is_too_many.ensures p c.requires.within ∙ ap (λ k. has_fault k p (before_pred p c.args.place) (a_pred (pred_def_view c.args.pred.now))) (sym c.in-TooMany.is)
