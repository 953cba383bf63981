use Rattle.std.proofs.lemmas.Result.{IfOk-weaker}
use Rattle.sym_matching.proofs.items.match_pure.Goals as goal

pub returns-clause-plain : goal.returns-clause-plain
returns-clause-plain c = IfOk-weaker c.match_by_form.result _ _ (λ x is. is.1) c.match_by_form.ensures

pub returns-clause-origin : goal.returns-clause-origin
returns-clause-origin c = IfOk-weaker c.match_by_form.result _ _ (λ x is. is.2) c.match_by_form.ensures
