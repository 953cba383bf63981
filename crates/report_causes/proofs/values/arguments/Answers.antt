use Rattle.std.proofs.Common.{◌≡◌, ◌++◌, ℕ, List, [], map, drop, length, Err, Some, slice_get, subst, ap, ◌∙◌, arith}
use Rattle.std.specs.Option.{option_and_then, option_to_list}
use Rattle.std.proofs.lemmas.List.{at_drop_all, length-map}
use Rattle.std.proofs.lemmas.Result.{err_from_is_err_and}
use Rattle.gil_report.specs.View.{binding_view}
use Rattle.gil_syntax.specs.declared.assertions.Param.{Param}
use Rattle.gil_syntax.specs.Valid.{param_names}
use Rattle.gil_values.proofs.Lists.{slice_get-read}
use Rattle.gil_values.specs.View.{values_view}
use Rattle.pure_terms.specs.declared.truth.HoldsFault.TheVariants.{Number}
use Rattle.pure_terms.specs.Meaning.{value}
use Rattle.pure_terms.specs.View.{terms_view}
use Rattle.report_causes.specs.Causes.{binding_of, AreTooWide}
use Rattle.report_causes.specs.Telling.{told_arguments}
use Rattle.report_causes.proofs.Bound.{told_more, told_all, wide_at}
use Rattle.report_causes.proofs.values.arguments.Goals as goal

pub returns-in_err-bind-clause-number : goal.returns-in_err-bind-clause-number
returns-in_err-bind-clause-number c same =
    let p = err_from_is_err_and c.from_residual.result c.from_residual.ensures.1 in
    let number : c.in_err-bind.field-0.0 ≡ Number = cc (p.1, p.2) in
    let v = values_view c.args.valuation.now in
    wide_at v (terms_view c.args.args.now) c.loop-index.index (subst (λ o. AreTooWide v (option_to_list o)) c.get.ensures (c.in_err-bind.ensures.number (ap Err number)))

pub loop-index-preserved : goal.loop-index-preserved
loop-index-preserved c =
    let v = values_view c.args.valuation.now in
    let params = c.args.params.now in
    let ts = terms_view c.args.args.now in
    let i = c.loop-index.index in
    let x = c.param-item.result.name in
    let before = map binding_view c.loop-index.bindings in
    let at : slice_get (param_names params) i ≡ Some x =
    subst (λ qs. slice_get (param_names qs) i ≡ Some x) c.as_slice-param-items.ensures
    (slice_get-read (λ (q : Param). q.name) c.as_slice-param-items.result.now i c.param-item.result c.loop-index-test.true c.param-item.is) in
    told_more v (param_names params) ts i x before (map binding_view c.bind.new.bindings) (told_arguments v (param_names params) ts) at
    (c.in_ok-bind.ensures.ok ∙ ap (λ o. before ++ binding_of x (option_and_then (value v) o)) c.get.ensures) c.loop-index.invariant

pub returns-clause-ok : goal.returns-clause-ok
returns-clause-ok c =
    let v = values_view c.args.valuation.now in
    let names = param_names c.args.params.now in
    let ts = terms_view c.args.args.now in
    let i = c.loop-index.index in
    let same_length = ap length c.as_slice-param-items.ensures in
    let none : drop i names ≡ [] =
    at_drop_all (λ (xs : List (List ℕ)). xs) names i (omega (arith, c.loop-index-test.false, same_length, length-map c.args.params.now (λ (q : Param). q.name))) in
    told_all v (drop i names) (drop i ts) (map binding_view c.loop-index.bindings) (told_arguments v names ts) none c.loop-index.invariant
