-- The loop has the values of the first expressions.
use Rattle.std.proofs.Common.{◌≡◌, ◌≤◌, ◌+◌, [], length, Option, Some, None, Ok, slice_get, sym, ap, subst, ◌∙◌, arith, rules}
use Rattle.gil_values.proofs.Lists.{slice_get-read}
use Rattle.std.proofs.lemmas.List.{length-map}
use Rattle.gil_values.specs.Operators.{binary, unary}
use Rattle.gil_values.specs.Pure.{PureValue}
use Rattle.gil_values.specs.View.{value_view, values_view}
use Rattle.gil_syntax.specs.Pure.{from_list, unary_of, binary_of}
use Rattle.gil_machine.specs.Gives.{Gives, IsFault, held_fault}
use Rattle.gil_machine.specs.Held.{HeldFault, HeldOutcome, after_held, evaluate_held, held}
use Rattle.gil_machine.specs.declared.resolved.Resolved.{the_lemmas}
use Rattle.gil_machine.specs.ResolvedView.{resolved_list_view, resolved_view}
use Rattle.gil_machine.proofs.Evaluated.{EvaluatedTo, evaluated_more, evaluated_whole, element_fault}
use Rattle.gil_machine.proofs.Sizes.{expr_size, exprs_size, size-element}
use Rattle.gil_machine.proofs.evaluation.+evaluation.Goals as goal

pub evaluate_all-evaluate-requires : goal.evaluate_all-evaluate-requires
evaluate_all-evaluate-requires t c =
    let here : slice_get (resolved_list_view [] c.args.expressions.now) c.loop-expression.expression-index ≡ Some (resolved_view [] c.expression-item.result)
    = subst (λ es. slice_get es c.loop-expression.expression-index ≡ Some (resolved_view [] c.expression-item.result)) (c.as_slice-expression-items.ensures []) (slice_get-read (resolved_view []) c.as_slice-expression-items.result.now c.loop-expression.expression-index c.expression-item.result (omega arith) c.expression-item.is) in
    let small : expr_size (resolved_view [] c.expression-item.result) ≤ exprs_size (from_list (resolved_list_view [] c.args.expressions.now)) = size-element _ _ _ here in
    (omega (arith, small, c.decreases), tt)

pub evaluate_all-returns-in-Err : goal.evaluate_all-returns-in-Err
evaluate_all-returns-in-Err t c = λ names s keeps.
    let here : slice_get (resolved_list_view names c.args.expressions.now) c.loop-expression.expression-index ≡ Some (resolved_view names c.expression-item.result)
    = subst (λ es. slice_get es c.loop-expression.expression-index ≡ Some (resolved_view names c.expression-item.result)) (c.as_slice-expression-items.ensures names) (slice_get-read (resolved_view names) c.as_slice-expression-items.result.now c.loop-expression.expression-index c.expression-item.result (omega arith) c.expression-item.is) in
    element_fault (resolved_list_view names c.args.expressions.now) s c.loop-expression.expression-index (resolved_view names c.expression-item.result) (values_view c.loop-expression.values) (held_fault c.in-Err.fault)
    (c.loop-expression.invariant names s keeps) here (c.in-Err.ensures names s keeps)

pub evaluate_all-loop-expression-preserved : goal.evaluate_all-loop-expression-preserved
evaluate_all-loop-expression-preserved t c = λ names s keeps.
    let here : slice_get (resolved_list_view names c.args.expressions.now) c.loop-expression.expression-index ≡ Some (resolved_view names c.expression-item.result)
    = subst (λ es. slice_get es c.loop-expression.expression-index ≡ Some (resolved_view names c.expression-item.result)) (c.as_slice-expression-items.ensures names) (slice_get-read (resolved_view names) c.as_slice-expression-items.result.now c.loop-expression.expression-index c.expression-item.result (omega arith) c.expression-item.is) in
    subst (EvaluatedTo (resolved_list_view names c.args.expressions.now) s (c.loop-expression.expression-index + 1)) (sym c.in_ok-push-in-Ok.ensures.ok)
    (evaluated_more (resolved_list_view names c.args.expressions.now) s c.loop-expression.expression-index (resolved_view names c.expression-item.result) (values_view c.loop-expression.values) (value_view c.in-Ok.value)
    (c.loop-expression.invariant names s keeps) here (c.in-Ok.ensures names s keeps))

pub evaluate_all-returns : goal.evaluate_all-returns
evaluate_all-returns t c = λ names s keeps.
    let long : length (resolved_list_view names c.args.expressions.now) ≡ length c.as_slice-expression-items.result.now = sym (ap length (c.as_slice-expression-items.ensures names)) ∙ length-map c.as_slice-expression-items.result.now (resolved_view names) in
    evaluated_whole (resolved_list_view names c.args.expressions.now) s c.loop-expression.expression-index (values_view c.loop-expression.values) (omega (arith, long, c.loop-expression-test.false)) (c.loop-expression.invariant names s keeps)

pub evaluate-returns-in-Some : goal.evaluate-returns-in-Some
evaluate-returns-in-Some t c = λ names s keeps.
    let seen : resolved_view names c.args.expression.now ≡ unary_of c.in-Op1.op (resolved_view names c.in-Op1.operand.value) = ap (resolved_view names) c.in-Op1.is ∙ search (rules, the_lemmas) in
    let value : evaluate_held (resolved_view names c.in-Op1.operand.value) s ≡ Ok (value_view c.in-Some.operand.now) = rw (sym c.deref.ensures) (c.in-Some.ensures names s keeps) in
    subst (λ e. Gives c.of_table.result (evaluate_held e s)) (sym seen) (subst (λ h. Gives c.of_table.result (after_held h (λ v. held (unary c.in-Op1.op v)))) (sym value) (c.of_table.ensures _ c.apply1.ensures))

pub evaluate-returns-in-None : goal.evaluate-returns-in-None
evaluate-returns-in-None t c = λ names s keeps.
    let seen : resolved_view names c.args.expression.now ≡ unary_of c.in-Op1.op (resolved_view names c.in-Op1.operand.value) = ap (resolved_view names) c.in-Op1.is ∙ search (rules, the_lemmas) in
    let given : Gives c.evaluate.result (evaluate_held (resolved_view names c.in-Op1.operand.value) s) = rw (sym c.deref-in-None.ensures) (c.evaluate.ensures names s keeps) in
    subst (λ e. Gives c.one_operand.result (evaluate_held e s)) (sym seen) (c.one_operand.ensures _ given)

pub evaluate-returns-in-Some-kept : goal.evaluate-returns-in-Some-kept
evaluate-returns-in-Some-kept t c = λ names s keeps.
    let seen : resolved_view names c.args.expression.now ≡ binary_of c.in-Op2.op (resolved_view names c.in-Op2.left.value) (resolved_view names c.in-Op2.right.value) = ap (resolved_view names) c.in-Op2.is ∙ search (rules, the_lemmas) in
    let value : evaluate_held (resolved_view names c.in-Op2.left.value) s ≡ Ok (value_view c.in-Some-kept.left.now) = rw (sym c.deref-in-Op2.ensures) (c.in-Some-kept.ensures names s keeps) in
    let given : Gives c.with_left.result (after_held (evaluate_held (resolved_view names c.in-Op2.right.value) s) (λ v. held (binary c.in-Op2.op (value_view c.in-Some-kept.left.now) v))) = rw (sym c.deref-in-Some-kept.ensures) (c.with_left.ensures names s keeps) in
    subst (λ e. Gives c.with_left.result (evaluate_held e s)) (sym seen) (subst (λ h. Gives c.with_left.result (after_held h (λ u. after_held (evaluate_held (resolved_view names c.in-Op2.right.value) s) (λ v. held (binary c.in-Op2.op u v))))) (sym value) given)

pub evaluate-returns-in-Ok : goal.evaluate-returns-in-Ok
evaluate-returns-in-Ok t c = λ names s keeps.
    let seen : resolved_view names c.args.expression.now ≡ binary_of c.in-Op2.op (resolved_view names c.in-Op2.left.value) (resolved_view names c.in-Op2.right.value) = ap (resolved_view names) c.in-Op2.is ∙ search (rules, the_lemmas) in
    let value : evaluate_held (resolved_view names c.in-Op2.left.value) s ≡ Ok (value_view c.in-Ok.left) = rw (sym c.deref-in-None-kept.ensures) (c.in-Ok.ensures names s keeps) in
    let given : Gives c.with_left-in-Ok.result (after_held (evaluate_held (resolved_view names c.in-Op2.right.value) s) (λ v. held (binary c.in-Op2.op (value_view c.in-Ok.left) v))) = rw (sym c.deref-in-Ok.ensures) (c.with_left-in-Ok.ensures names s keeps) in
    subst (λ e. Gives c.with_left-in-Ok.result (evaluate_held e s)) (sym seen) (subst (λ h. Gives c.with_left-in-Ok.result (after_held h (λ u. after_held (evaluate_held (resolved_view names c.in-Op2.right.value) s) (λ v. held (binary c.in-Op2.op u v))))) (sym value) given)

fault_after : (o : Option HeldFault) (h : HeldOutcome) (f : PureValue → HeldOutcome) → IsFault o h → IsFault o (after_held h f)
fault_after (Some fault) h f is = ap (λ g. after_held g f) is
fault_after None h f is = tt

pub evaluate-returns-in-Err : goal.evaluate-returns-in-Err
evaluate-returns-in-Err t c = λ names s keeps.
    let seen : resolved_view names c.args.expression.now ≡ binary_of c.in-Op2.op (resolved_view names c.in-Op2.left.value) (resolved_view names c.in-Op2.right.value) = ap (resolved_view names) c.in-Op2.is ∙ search (rules, the_lemmas) in
    let given : IsFault (held_fault c.in-Err.fault) (evaluate_held (resolved_view names c.in-Op2.left.value) s) = rw (sym c.deref-in-None-kept.ensures) (c.in-Err.ensures names s keeps) in
    subst (λ e. IsFault (held_fault c.in-Err.fault) (evaluate_held e s)) (sym seen) (fault_after (held_fault c.in-Err.fault) (evaluate_held (resolved_view names c.in-Op2.left.value) s) _ given)

pub with_left-returns-in-Some : goal.with_left-returns-in-Some
with_left-returns-in-Some t c = λ names s keeps.
    let value : evaluate_held (resolved_view names c.args.right.now) s ≡ Ok (value_view c.in-Some.right.now) = c.in-Some.ensures names s keeps in
    subst (λ h. Gives c.of_table.result (after_held h (λ v. held (binary c.args.op (value_view c.args.left.now) v)))) (sym value) (c.of_table.ensures _ c.apply2.ensures)
