use Rattle.std.proofs.Common.{◌≡◌, ◌++◌, string_bytes, sym, ap, ◌∙◌, arith, rules}
use Rattle.std.specs.Prelude.{codes}
use Rattle.gil_syntax.specs.declared.expressions.Expr.{the_lemmas}
use Rattle.gil_syntax.specs.Pure.{list_of, unary_of, binary_of, from_list}
use Rattle.gil_syntax.specs.View.{expr_view, exprs_view}
use Rattle.gil_syntax.proofs.ExpressionLemmas.{element_read, node_count-element}
use Rattle.gil_values.proofs.Joined.{pushed}
use Rattle.syntax_print.specs.Expressions.{printed_expr}
use Rattle.syntax_print.proofs.Forms.{list_added, unary_added, binary_added}
use Rattle.syntax_print.proofs.expressions.+print.Goals as goal

pub push_expr-returns-in_ok-push_str-in-List-2 : goal.push_expr-returns-in_ok-push_str-in-List-2
push_expr-returns-in_ok-push_str-in-List-2 t c =
    let seen : expr_view c.args.expression.now ≡ list_of (from_list (exprs_view c.in-List.elements)) = ap expr_view c.in-List.is ∙ search (rules, the_lemmas) in
    list_added _ _ _ _ _ _ seen c.in_ok-push_str-in-List.ensures.bytes c.in_ok-push_exprs-in-List.ensures c.in_ok-push_str-in-List-2.ensures.bytes

pub push_expr-returns-in_ok-push_str-in-Op1-3 : goal.push_expr-returns-in_ok-push_str-in-Op1-3
push_expr-returns-in_ok-push_str-in-Op1-3 t c =
    let op = c.in-Op1.op in
    let seen : expr_view c.args.expression.now ≡ unary_of op (expr_view c.in-Op1.operand.value) = ap expr_view c.in-Op1.is ∙ search (rules, the_lemmas) in
    let read : expr_view c.args.expression.now ≡ unary_of op (expr_view c.deref.result.now) = seen ∙ ap (λ e. unary_of op (expr_view e)) (sym c.deref.ensures) in
    unary_added _ op _ _ _ _ _ _ read
    (c.in_ok-push_str-in-Op1.ensures.bytes ∙ ap (λ text. string_bytes c.args.out.now ++ text) c.unary_name.ensures)
    c.in_ok-push_str-in-Op1-2.ensures.bytes c.in_ok-push_expr-in-Op1.ensures c.in_ok-push_str-in-Op1-3.ensures.bytes

pub push_expr-returns-in_ok-push_str-in-Op2-3 : goal.push_expr-returns-in_ok-push_str-in-Op2-3
push_expr-returns-in_ok-push_str-in-Op2-3 t c =
    let op = c.in-Op2.op in
    let seen : expr_view c.args.expression.now ≡ binary_of op (expr_view c.in-Op2.left.value) (expr_view c.in-Op2.right.value) = ap expr_view c.in-Op2.is ∙ search (rules, the_lemmas) in
    let read : expr_view c.args.expression.now ≡ binary_of op (expr_view c.deref-in-Op2.result.now) (expr_view c.deref-in-Op2-2.result.now) =
    seen ∙ ap (λ e. binary_of op (expr_view e) (expr_view c.in-Op2.right.value)) (sym c.deref-in-Op2.ensures)
    ∙ ap (λ e. binary_of op (expr_view c.deref-in-Op2.result.now) (expr_view e)) (sym c.deref-in-Op2-2.ensures) in
    binary_added _ op _ _ _ _ _ _ _ _ read
    (c.in_ok-push_str-in-Op2.ensures.bytes ∙ ap (λ text. string_bytes c.args.out.now ++ text) c.before_operands.ensures)
    c.in_ok-push_expr-in-Op2.ensures
    (c.in_ok-push_str-in-Op2-2.ensures.bytes ∙ ap (λ text. string_bytes c.push_expr-in-Op2.new.out ++ text) c.between_operands.ensures)
    c.in_ok-push_expr-in-Op2-2.ensures c.in_ok-push_str-in-Op2-3.ensures.bytes

pub push_exprs-push_expr-requires : goal.push_exprs-push_expr-requires
push_exprs-push_expr-requires t c =
    let element = element_read _ _ c.loop-index.index _ c.as_slice-expression-items.ensures c.loop-index-test.true c.expression-item.is in
    let smaller = node_count-element _ c.loop-index.index _ element in
    (omega (arith, smaller), tt)

pub push_exprs-loop-index-preserved : goal.push_exprs-loop-index-preserved
push_exprs-loop-index-preserved t c =
    let element = element_read _ _ c.loop-index.index _ c.as_slice-expression-items.ensures c.loop-index-test.true c.expression-item.is in
    pushed printed_expr (codes ", ") _ c.loop-index.index _ _ _ _ _ element c.loop-index.invariant c.in_ok-push_separator.ensures c.in_ok-push_expr.ensures
