use Rattle.std.proofs.Common.{◌≡◌, ◌&&◌, sym, ap, ◌∙◌, rules, arith}
use Rattle.gil_syntax.specs.declared.expressions.Expr.{the_lemmas}
use Rattle.gil_syntax.specs.Pure.{binary_of}
use Rattle.gil_syntax.specs.View.{expr_view}
use Rattle.gil_syntax.proofs.ExpressionLemmas.{element_read, node_count-element}
use Rattle.assert_logic.specs.Names.{Known, knows_all}
use Rattle.assert_logic.proofs.LoopLemmas.{all_fails}
use Rattle.assert_logic.proofs.NameLemmas.{list_known, pair_known}
use Rattle.sym_evaluation.specs.View.{store_view}
use Rattle.sym_matching.specs.Splitting.{has_term}
use Rattle.sym_matching.proofs.names.+naming.Goals as goal

pub knows_all-returns-in-List : goal.knows_all-returns-in-List
knows_all-returns-in-List t c =
    c.knows_each.ensures ∙ sym (list_known (has_term (store_view c.args.store.now)) c.args.expression.now c.in-List.elements c.in-List.is)

pub knows_all-returns-then-knows_all : goal.knows_all-returns-then-knows_all
knows_all-returns-then-knows_all t c =
    let known : Known = has_term (store_view c.args.store.now) in
    let left : expr_view c.deref-in-Op2.result.now ≡ expr_view c.in-Op2.left.value = ap expr_view c.deref-in-Op2.ensures in
    let right : expr_view c.deref-then-knows_all.result.now ≡ expr_view c.in-Op2.right.value = ap expr_view c.deref-then-knows_all.ensures in
    let seen : expr_view c.args.expression.now ≡ binary_of c.in-Op2.field-0 (expr_view c.in-Op2.left.value) (expr_view c.in-Op2.right.value) = ap expr_view c.in-Op2.is ∙ search (rules, the_lemmas) in
    c.knows_all-then-knows_all.ensures ∙ ap (knows_all known) right
    ∙ sym (ap (knows_all known) seen ∙ pair_known known c.in-Op2.field-0 (expr_view c.in-Op2.left.value) (expr_view c.in-Op2.right.value)
    ∙ ap (λ b. b && knows_all known (expr_view c.in-Op2.right.value)) (ap (knows_all known) (sym left) ∙ sym c.knows_all-in-Op2.ensures ∙ c.if-knows_all.true))

pub knows_all-returns-else-knows_all : goal.knows_all-returns-else-knows_all
knows_all-returns-else-knows_all t c =
    let known : Known = has_term (store_view c.args.store.now) in
    let left : expr_view c.deref-in-Op2.result.now ≡ expr_view c.in-Op2.left.value = ap expr_view c.deref-in-Op2.ensures in
    let seen : expr_view c.args.expression.now ≡ binary_of c.in-Op2.field-0 (expr_view c.in-Op2.left.value) (expr_view c.in-Op2.right.value) = ap expr_view c.in-Op2.is ∙ search (rules, the_lemmas) in
    c.if-knows_all.false
    ∙ sym (ap (knows_all known) seen ∙ pair_known known c.in-Op2.field-0 (expr_view c.in-Op2.left.value) (expr_view c.in-Op2.right.value)
    ∙ ap (λ b. b && knows_all known (expr_view c.in-Op2.right.value)) (ap (knows_all known) (sym left) ∙ sym c.knows_all-in-Op2.ensures ∙ c.if-knows_all.false))

pub knows_each-knows_all-requires : goal.knows_each-knows_all-requires
knows_each-knows_all-requires t c =
    let element = element_read _ _ c.loop-expression.expression-index _ c.as_slice-expression-items.ensures c.loop-expression-test.true c.expression-item.is in
    let smaller = node_count-element _ c.loop-expression.expression-index _ element in
    omega (arith, smaller, c.decreases)

pub knows_each-returns-then-not-knows_all : goal.knows_each-returns-then-not-knows_all
knows_each-returns-then-not-knows_all t c =
    let element = element_read _ _ c.loop-expression.expression-index _ c.as_slice-expression-items.ensures c.loop-expression-test.true c.expression-item.is in
    sym (all_fails (knows_all (has_term (store_view c.args.store.now))) _ c.loop-expression.expression-index _ element (sym c.knows_all.ensures ∙ c.if-not-knows_all.true))
