use Rattle.std.proofs.Common.{◌≡◌, ◌<◌, length, get_or, subst}
use Rattle.gil_syntax.specs.View.{spec_view}
use Rattle.pure_terms.specs.View.{terms_view}
use Rattle.spec_vacuity.specs.Translation.{is_own_variable}
use Rattle.sym_evaluation.specs.View.{store_view}
use Rattle.report_causes.proofs.Bound.{terms_more}
use Rattle.report_causes.proofs.values.with_variables.Goals as goal

pub loop-param-preserved : goal.loop-param-preserved
loop-param-preserved c =
    let s = spec_view c.args.spec.now in
    let i = c.loop-param.param-index in
    let q = c.param-item.result in
    let below : i < length s.logicals = subst (λ qs. i < length qs) c.as_slice-param-items.ensures c.loop-param-test.true in
    let at : q ≡ get_or s.logicals i q = subst (λ qs. q ≡ get_or qs i q) c.as_slice-param-items.ensures c.param-item.is in
    terms_more (store_view c.args.variables.now) (is_own_variable s) s.logicals i q (terms_view c.loop-param.terms) (terms_view c.in_ok-terms.terms) (terms_view c.args.terms) below at
    c.in_ok-terms.ensures c.loop-param.invariant
