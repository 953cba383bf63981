use Rattle.std.proofs.Common.{◌≡◌, ◌||◌, sym, ap, ◌∙◌, rules, arith}
use Rattle.gil_syntax.specs.declared.expressions.Expr.{the_lemmas}
use Rattle.gil_syntax.specs.Pure.{binary_of}
use Rattle.gil_syntax.specs.View.{expr_view}
use Rattle.gil_syntax.specs.Found.{stands_in}
use Rattle.gil_syntax.proofs.ExpressionLemmas.{element_read, node_count-element, list_any-element, stands_in-list, stands_in-pair}
use Rattle.gil_syntax.proofs.seeking.+seeking.Goals as goal

pub in_expression-returns-in-List : goal.in_expression-returns-in-List
in_expression-returns-in-List g t c =
    c.in_expressions.ensures ∙ sym (stands_in-list (g.S.Sought.is_node c.args.sought.now) c.args.expression.now (sym c.if-tests_node.ensures) c.in-List.elements c.in-List.is)

pub in_expression-returns-then-in_expression : goal.in_expression-returns-then-in_expression
in_expression-returns-then-in_expression g t c =
    let node = g.S.Sought.is_node c.args.sought.now in
    let left : expr_view c.deref-in-Op2.result.now ≡ expr_view c.in-Op2.left.value = ap expr_view c.deref-in-Op2.ensures in
    let seen : expr_view c.args.expression.now ≡ binary_of c.in-Op2.field-0 (expr_view c.in-Op2.left.value) (expr_view c.in-Op2.right.value) = ap expr_view c.in-Op2.is ∙ search (rules, the_lemmas) in
    c.if-in_expression.true ∙ sym (stands_in-pair node c.args.expression.now (sym c.if-tests_node.ensures) c.in-Op2.field-0 _ _ seen ∙ ap (λ b. b || stands_in node (expr_view c.in-Op2.right.value)) (ap (stands_in node) (sym left) ∙ sym c.in_expression-in-Op2.ensures ∙ c.if-in_expression.true))

pub in_expression-returns-else-in_expression : goal.in_expression-returns-else-in_expression
in_expression-returns-else-in_expression g t c =
    let node = g.S.Sought.is_node c.args.sought.now in
    let left : expr_view c.deref-in-Op2.result.now ≡ expr_view c.in-Op2.left.value = ap expr_view c.deref-in-Op2.ensures in
    let right : expr_view c.deref-else-in_expression.result.now ≡ expr_view c.in-Op2.right.value = ap expr_view c.deref-else-in_expression.ensures in
    let seen : expr_view c.args.expression.now ≡ binary_of c.in-Op2.field-0 (expr_view c.in-Op2.left.value) (expr_view c.in-Op2.right.value) = ap expr_view c.in-Op2.is ∙ search (rules, the_lemmas) in
    c.in_expression-else-in_expression.ensures ∙ ap (stands_in node) right ∙ sym (stands_in-pair node c.args.expression.now (sym c.if-tests_node.ensures) c.in-Op2.field-0 _ _ seen ∙ ap (λ b. b || stands_in node (expr_view c.in-Op2.right.value)) (ap (stands_in node) (sym left) ∙ sym c.in_expression-in-Op2.ensures ∙ c.if-in_expression.false))

pub in_expressions-in_expression-requires : goal.in_expressions-in_expression-requires
in_expressions-in_expression-requires g t c =
    let element = element_read _ _ c.loop-expression.expression-index _ c.as_slice-expression-items.ensures c.loop-expression-test.true c.expression-item.is in
    let smaller = node_count-element _ c.loop-expression.expression-index _ element in
    λ κs h. (omega (arith, smaller), (h, c.requires))

pub in_expressions-returns-then-in_expression : goal.in_expressions-returns-then-in_expression
in_expressions-returns-then-in_expression g t c =
    let element = element_read _ _ c.loop-expression.expression-index _ c.as_slice-expression-items.ensures c.loop-expression-test.true c.expression-item.is in
    sym (list_any-element (stands_in (g.S.Sought.is_node c.args.sought.now)) _ c.loop-expression.expression-index _ element (sym c.in_expression.ensures ∙ c.if-in_expression.true))
