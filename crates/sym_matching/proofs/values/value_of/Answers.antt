use Rattle.std.proofs.Common.{sym, subst}
use Rattle.gil_syntax.specs.View.{expr_view}
use Rattle.sym_model.specs.Alternatives.{Alternatives}
use Rattle.sym_evaluation.specs.View.{store_view, cases_view}
use Rattle.sym_matching.specs.Parts.{AreValues}
use Rattle.sym_matching.proofs.Evaluated.{values_from}
use Rattle.sym_matching.proofs.values.value_of.Goals as goal

pub returns : goal.returns
returns c =
    let bs = store_view c.args.store.now in
    let e = expr_view c.args.expression.now in
    let cases = cases_view c.in_ok-faults.field-0 in
    subst (λ (x : Alternatives). AreValues bs e (record { found = cases.good; none = x })) (sym c.in_ok-conditions_of.ensures)
    (values_from c.plain_expressions_ask_nothing.ensures bs e cases c.requires c.in_ok-faults.ensures.cases c.in_ok-faults.ensures.origin c.in_ok-faults.ensures.names)
