use Rattle.std.proofs.Common.{◌≡◌, ◌&&◌, sym, ap, ◌∙◌, rules, arith}
use Rattle.gil_syntax.specs.declared.expressions.Expr.{the_lemmas}
use Rattle.gil_syntax.specs.Pure.{binary_of}
use Rattle.gil_syntax.specs.View.{expr_view}
use Rattle.gil_syntax.proofs.ExpressionLemmas.{element_read, node_count-element}
use Rattle.assert_logic.specs.Names.{knows_all}
use Rattle.assert_logic.proofs.LoopLemmas.{all_fails}
use Rattle.assert_logic.proofs.NameLemmas.{list_known, pair_known}
use Rattle.assert_logic.proofs.names.+naming.Goals as goal

pub all_names-returns-in-List : goal.all_names-returns-in-List
all_names-returns-in-List g t c =
    c.all_names_among.ensures ∙ sym (list_known (g.T.NameTest.accepts c.args.test.now) c.args.expression.now c.in-List.elements c.in-List.is)

pub all_names-returns-then-all_names : goal.all_names-returns-then-all_names
all_names-returns-then-all_names g t c =
    let known = g.T.NameTest.accepts c.args.test.now in
    let left : expr_view c.deref-in-Op2.result.now ≡ expr_view c.in-Op2.left.value = ap expr_view c.deref-in-Op2.ensures in
    let right : expr_view c.deref-then-all_names.result.now ≡ expr_view c.in-Op2.right.value = ap expr_view c.deref-then-all_names.ensures in
    let seen : expr_view c.args.expression.now ≡ binary_of c.in-Op2.field-0 (expr_view c.in-Op2.left.value) (expr_view c.in-Op2.right.value) = ap expr_view c.in-Op2.is ∙ search (rules, the_lemmas) in
    c.all_names-then-all_names.ensures ∙ ap (knows_all known) right ∙ sym (ap (knows_all known) seen ∙ pair_known known c.in-Op2.field-0 (expr_view c.in-Op2.left.value) (expr_view c.in-Op2.right.value) ∙ ap (λ b. b && knows_all known (expr_view c.in-Op2.right.value)) (ap (knows_all known) (sym left) ∙ sym c.all_names-in-Op2.ensures ∙ c.if-all_names.true))

pub all_names-returns-else-all_names : goal.all_names-returns-else-all_names
all_names-returns-else-all_names g t c =
    let known = g.T.NameTest.accepts c.args.test.now in
    let left : expr_view c.deref-in-Op2.result.now ≡ expr_view c.in-Op2.left.value = ap expr_view c.deref-in-Op2.ensures in
    let seen : expr_view c.args.expression.now ≡ binary_of c.in-Op2.field-0 (expr_view c.in-Op2.left.value) (expr_view c.in-Op2.right.value) = ap expr_view c.in-Op2.is ∙ search (rules, the_lemmas) in
    c.if-all_names.false ∙ sym (ap (knows_all known) seen ∙ pair_known known c.in-Op2.field-0 (expr_view c.in-Op2.left.value) (expr_view c.in-Op2.right.value) ∙ ap (λ b. b && knows_all known (expr_view c.in-Op2.right.value)) (ap (knows_all known) (sym left) ∙ sym c.all_names-in-Op2.ensures ∙ c.if-all_names.false))

pub all_names_among-all_names-requires : goal.all_names_among-all_names-requires
all_names_among-all_names-requires g t c κs within =
    let element = element_read _ _ c.loop-expression.expression-index _ c.as_slice-expression-items.ensures c.loop-expression-test.true c.expression-item.is in
    let smaller = node_count-element _ c.loop-expression.expression-index _ element in
    (omega (arith, smaller), within)

pub all_names_among-returns-then-not-all_names : goal.all_names_among-returns-then-not-all_names
all_names_among-returns-then-not-all_names g t c =
    let element = element_read _ _ c.loop-expression.expression-index _ c.as_slice-expression-items.ensures c.loop-expression-test.true c.expression-item.is in
    sym (all_fails (knows_all (g.T.NameTest.accepts c.args.test.now)) _ c.loop-expression.expression-index _ element (sym c.all_names.ensures ∙ c.if-not-all_names.true))
