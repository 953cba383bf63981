use Rattle.std.proofs.Common.{◌≡◌, ◌++◌, sym, ap, ◌∙◌, rules, arith, append_assoc}
use Rattle.gil_syntax.specs.declared.expressions.Expr.{the_lemmas}
use Rattle.gil_syntax.specs.Pure.{binary_of}
use Rattle.gil_syntax.specs.Subexpressions.{names_of}
use Rattle.gil_syntax.specs.View.{expr_view, exprs_view}
use Rattle.gil_syntax.proofs.ExpressionLemmas.{element_read, node_count-element, expr_view-List}
use Rattle.sym_states.proofs.Found.{ok_to}
use Rattle.sym_states.proofs.NameLists.{names_of_pair, names_of_elements}
use Rattle.sym_states.proofs.standing.+adding_names.Goals as goal

pub add_names-returns-in-List : goal.add_names-returns-in-List
add_names-returns-in-List t c =
    let seen = ap (λ e. c.args.names ++ names_of (expr_view e)) c.in-List.is ∙ ap (λ e. c.args.names ++ names_of e) (expr_view-List c.in-List.elements) ∙ ap (λ xs. c.args.names ++ xs) (names_of_elements (exprs_view c.in-List.elements)) in
    ok_to c.add_all_names.result _ (λ r. r ≡ c.args.names ++ names_of (expr_view c.args.expression.now)) (λ r is. is ∙ sym seen) c.add_all_names.ensures

pub add_names-returns-in_ok-names-in-Op2 : goal.add_names-returns-in_ok-names-in-Op2
add_names-returns-in_ok-names-in-Op2 t c =
    let d = expr_view c.in-Op2.left.value in
    let e = expr_view c.in-Op2.right.value in
    let seen : expr_view c.args.expression.now ≡ binary_of c.in-Op2.field-0 d e = ap expr_view c.in-Op2.is ∙ search (rules, the_lemmas) in
    let first : c.in_ok-names-in-Op2.names ≡ c.args.names ++ names_of d = c.in_ok-names-in-Op2.ensures ∙ ap (λ f. c.args.names ++ names_of (expr_view f)) c.deref-in-Op2.ensures in
    let joined : c.in_ok-names-in-Op2.names ++ names_of e ≡ c.args.names ++ names_of (expr_view c.args.expression.now) =
    ap (λ xs. xs ++ names_of e) first ∙ append_assoc c.args.names (names_of d) (names_of e) ∙ ap (λ xs. c.args.names ++ xs) (sym (ap names_of seen ∙ names_of_pair c.in-Op2.field-0 d e)) in
    ok_to c.add_names-in-Op2-2.result _ (λ r. r ≡ c.args.names ++ names_of (expr_view c.args.expression.now))
    (λ r is. is ∙ ap (λ f. c.in_ok-names-in-Op2.names ++ names_of (expr_view f)) c.deref-in-Op2-2.ensures ∙ joined) c.add_names-in-Op2-2.ensures

pub add_all_names-add_names-requires : goal.add_all_names-add_names-requires
add_all_names-add_names-requires t c =
    let element = element_read _ _ c.loop-expression.expression-index _ c.as_slice-expression-items.ensures c.loop-expression-test.true c.expression-item.is in
    let smaller = node_count-element _ c.loop-expression.expression-index _ element in
    (omega (arith, smaller), tt)
