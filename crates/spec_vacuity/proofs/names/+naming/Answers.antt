use Rattle.std.proofs.Common.{◌≡◌, ◌&&◌, sym, ap, ◌∙◌, rules, arith}
use Rattle.gil_syntax.specs.declared.expressions.Expr.{the_lemmas}
use Rattle.gil_syntax.specs.Pure.{binary_of}
use Rattle.gil_syntax.specs.View.{expr_view}
use Rattle.gil_syntax.proofs.ExpressionLemmas.{element_read, node_count-element}
use Rattle.assert_logic.specs.Names.{knows_all, is_other}
use Rattle.assert_logic.proofs.LoopLemmas.{all_fails}
use Rattle.assert_logic.proofs.NameLemmas.{list_known, pair_known}
use Rattle.spec_vacuity.proofs.names.+naming.Goals as goal

pub all_others-returns-in-List : goal.all_others-returns-in-List
all_others-returns-in-List t c =
    c.all_others_among.ensures ∙ sym (list_known (is_other c.args.name.now) c.args.expression.now c.in-List.elements c.in-List.is)

pub all_others-returns-then-all_others : goal.all_others-returns-then-all_others
all_others-returns-then-all_others t c =
    let known = is_other c.args.name.now in
    let left : expr_view c.deref-in-Op2.result.now ≡ expr_view c.in-Op2.left.value = ap expr_view c.deref-in-Op2.ensures in
    let right : expr_view c.deref-then-all_others.result.now ≡ expr_view c.in-Op2.right.value = ap expr_view c.deref-then-all_others.ensures in
    let seen : expr_view c.args.expression.now ≡ binary_of c.in-Op2.field-0 (expr_view c.in-Op2.left.value) (expr_view c.in-Op2.right.value) = ap expr_view c.in-Op2.is ∙ search (rules, the_lemmas) in
    c.all_others-then-all_others.ensures ∙ ap (knows_all known) right ∙ sym (ap (knows_all known) seen ∙ pair_known known c.in-Op2.field-0 (expr_view c.in-Op2.left.value) (expr_view c.in-Op2.right.value) ∙ ap (λ b. b && knows_all known (expr_view c.in-Op2.right.value)) (ap (knows_all known) (sym left) ∙ sym c.all_others-in-Op2.ensures ∙ c.if-all_others.true))

pub all_others-returns-else-all_others : goal.all_others-returns-else-all_others
all_others-returns-else-all_others t c =
    let known = is_other c.args.name.now in
    let left : expr_view c.deref-in-Op2.result.now ≡ expr_view c.in-Op2.left.value = ap expr_view c.deref-in-Op2.ensures in
    let seen : expr_view c.args.expression.now ≡ binary_of c.in-Op2.field-0 (expr_view c.in-Op2.left.value) (expr_view c.in-Op2.right.value) = ap expr_view c.in-Op2.is ∙ search (rules, the_lemmas) in
    c.if-all_others.false ∙ sym (ap (knows_all known) seen ∙ pair_known known c.in-Op2.field-0 (expr_view c.in-Op2.left.value) (expr_view c.in-Op2.right.value) ∙ ap (λ b. b && knows_all known (expr_view c.in-Op2.right.value)) (ap (knows_all known) (sym left) ∙ sym c.all_others-in-Op2.ensures ∙ c.if-all_others.false))

pub all_others_among-all_others-requires : goal.all_others_among-all_others-requires
all_others_among-all_others-requires t c =
    let element = element_read _ _ c.loop-expression.expression-index _ c.as_slice-expression-items.ensures c.loop-expression-test.true c.expression-item.is in
    let smaller = node_count-element _ c.loop-expression.expression-index _ element in
    (omega (arith, smaller), tt)

pub all_others_among-returns-then-not-all_others : goal.all_others_among-returns-then-not-all_others
all_others_among-returns-then-not-all_others t c =
    let element = element_read _ _ c.loop-expression.expression-index _ c.as_slice-expression-items.ensures c.loop-expression-test.true c.expression-item.is in
    sym (all_fails (knows_all (is_other c.args.name.now)) _ c.loop-expression.expression-index _ element (sym c.all_others.ensures ∙ c.if-not-all_others.true))
