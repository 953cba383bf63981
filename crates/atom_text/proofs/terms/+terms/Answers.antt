use Rattle.std.proofs.Common.{◌≡◌, ◌+◌, drop, length, sym, ap, subst, arith, length-drop}
use Rattle.std.proofs.lemmas.List.{length-map}
use Rattle.std.proofs.lemmas.Result.{err_from_is_err_and}
use Rattle.gil_syntax.proofs.ExpressionLemmas.{element_read, node_count-element}
use Rattle.gil_syntax.specs.Pure.{from_list}
use Rattle.gil_syntax.specs.View.{expr_view, exprs_view}
use Rattle.pure_terms.specs.View.{term_view, terms_view}
use Rattle.atom_text.specs.Resolving.{variable_in, terms_of}
use Rattle.atom_text.proofs.Lists.{dropped_at, rest_of, terms_go_on, terms_stop, terms_end}
use Rattle.atom_text.proofs.terms.+terms.Goals as goal

pub terms_of-term_of-requires : goal.terms_of-term_of-requires
terms_of-term_of-requires t c =
    let element = element_read _ _ c.loop-expression.expression-index _ c.as_slice-expression-items.ensures c.loop-expression-test.true c.expression-item.is in
    let smaller = node_count-element _ c.loop-expression.expression-index _ element in
    (omega (arith, smaller), tt)

pub terms_of-returns-in_err-term_of : goal.terms_of-returns-in_err-term_of
terms_of-returns-in_err-term_of t c =
    let p = err_from_is_err_and c.from_residual.result c.from_residual.ensures.1 in
    let find = variable_in c.args.variables.now in
    let es = exprs_view c.args.expressions.now in
    let i = c.loop-expression.expression-index in
    let element = element_read _ _ i _ c.as_slice-expression-items.ensures c.loop-expression-test.true c.expression-item.is in
    let before = subst (λ xs. rest_of find (terms_view c.loop-expression.terms) xs ≡ terms_of find (from_list es)) (dropped_at es i (expr_view c.expression-item.result) element) c.loop-expression.invariant in
    rw (p.1, p.2) (terms_stop find c.in_err-term_of.field-0.0 (terms_view c.loop-expression.terms) (expr_view c.expression-item.result) (drop (i + 1) es) _ c.in_err-term_of.ensures before)

pub terms_of-loop-expression-preserved : goal.terms_of-loop-expression-preserved
terms_of-loop-expression-preserved t c =
    let find = variable_in c.args.variables.now in
    let es = exprs_view c.args.expressions.now in
    let i = c.loop-expression.expression-index in
    let element = element_read _ _ i _ c.as_slice-expression-items.ensures c.loop-expression-test.true c.expression-item.is in
    let before = subst (λ xs. rest_of find (terms_view c.loop-expression.terms) xs ≡ terms_of find (from_list es)) (dropped_at es i (expr_view c.expression-item.result) element) c.loop-expression.invariant in
    subst (λ ts. rest_of find ts (drop (i + 1) es) ≡ terms_of find (from_list es)) (sym c.in_ok-push.ensures.ok)
    (terms_go_on find (terms_view c.loop-expression.terms) (expr_view c.expression-item.result) (drop (i + 1) es) (term_view c.in_ok-term_of.field-0) _ c.in_ok-term_of.ensures before)

pub terms_of-returns : goal.terms_of-returns
terms_of-returns t c =
    let es = exprs_view c.args.expressions.now in
    let i = c.loop-expression.expression-index in
    let seen = ap length c.as_slice-expression-items.ensures in
    let count = length-map c.as_slice-expression-items.result.now expr_view in
    let none : length (drop i es) ≡ 0 = omega (arith, length-drop i es, seen, count, c.loop-expression-test.false) in
    terms_end (variable_in c.args.variables.now) (terms_view c.loop-expression.terms) (drop i es) _ none c.loop-expression.invariant
