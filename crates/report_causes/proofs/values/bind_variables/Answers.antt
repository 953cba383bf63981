use Rattle.std.proofs.Common.{◌≡◌, Err, Some, slice_get, ap}
use Rattle.std.proofs.lemmas.Result.{err_from_is_err_and}
use Rattle.gil_syntax.specs.View.{spec_view}
use Rattle.gil_values.proofs.Joined.{item_read}
use Rattle.gil_values.specs.View.{values_view}
use Rattle.pure_terms.specs.declared.truth.HoldsFault.TheVariants.{Number}
use Rattle.spec_vacuity.specs.Translation.{is_own_variable}
use Rattle.sym_evaluation.specs.View.{store_view}
use Rattle.report_causes.proofs.Bound.{wide_own}
use Rattle.report_causes.proofs.values.bind_variables.Goals as goal

pub returns-in_err-bind_own-clause-number : goal.returns-in_err-bind_own-clause-number
returns-in_err-bind_own-clause-number c same =
    let p = err_from_is_err_and c.from_residual-in_err-bind_own.result c.from_residual-in_err-bind_own.ensures.1 in
    let number : c.in_err-bind_own.field-0.0 ≡ Number = cc (p.1, p.2) in
    let s = spec_view c.args.spec.now in
    let i = c.loop-param.param-index in
    let q = c.param-item.result in
    let at : slice_get s.logicals i ≡ Some q = item_read c.as_slice-param-items.result.now s.logicals i q c.as_slice-param-items.ensures c.loop-param-test.true c.param-item.is in
    wide_own (values_view c.args.valuation.now) (store_view c.args.variables.now) (is_own_variable s) s.logicals i q at (c.in_err-bind_own.ensures.number (ap Err number))
