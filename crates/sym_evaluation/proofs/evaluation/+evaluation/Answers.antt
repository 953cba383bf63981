use Rattle.std.proofs.Common.{◌≡◌, ◌+◌, ◌≤◌, suc, true, ◌∷◌, drop, Some, slice_get, sym, ap, subst, ◌∙◌, arith, rules}
use Rattle.gil_values.proofs.Lists.{slice_get-read}
use Rattle.gil_syntax.specs.declared.expressions.Expr
use Rattle.gil_syntax.specs.declared.expressions.Expr.{Expr, the_lemmas}
use Rattle.gil_syntax.specs.Pure.{list_of, binary_of, from_list}
use Rattle.pure_terms.specs.View.{term_view, terms_view, atoms_view}
use Rattle.sym_evaluation.specs.Evaluating.{result_given, cases_after, all_cases_after}
use Rattle.sym_evaluation.specs.View.{store_view, faults_view}
use Rattle.gil_syntax.specs.View.{expr_view, exprs_view}
use Rattle.sym_evaluation.proofs.Listing.{rest_after, at_fault, at_term}
use Rattle.sym_evaluation.proofs.Views.{expr_view-List, good_cases, no_good, dropped_at}
use Rattle.sym_evaluation.proofs.Sizes.{expr_size, exprs_size, size-element, is_all_spellable, split_spellable, elements_spellable, element_spellable}
use Rattle.sym_evaluation.proofs.evaluation.+evaluation.Goals as goal

pub evaluate_after-evaluate_all_after-requires : goal.evaluate_after-evaluate_all_after-requires
evaluate_after-evaluate_all_after-requires t c =
    let size : expr_size (expr_view c.args.expression.now) ≡ suc (exprs_size (from_list (exprs_view c.in-List.elements))) = ap (λ (e : Expr). expr_size (expr_view e)) c.in-List.is ∙ ap expr_size (expr_view-List c.in-List.elements) in
    let here : is_all_spellable (list_of (from_list (exprs_view c.in-List.elements))) ≡ true = sym (ap (λ (e : Expr). is_all_spellable (expr_view e)) c.in-List.is ∙ ap is_all_spellable (expr_view-List c.in-List.elements)) ∙ c.requires in
    (omega (arith, size, c.decreases), elements_spellable (exprs_view c.in-List.elements) here)

pub evaluate_after-evaluate_after-requires-in-Op2-2 : goal.evaluate_after-evaluate_after-requires-in-Op2-2
evaluate_after-evaluate_after-requires-in-Op2-2 t c =
    let left = expr_view c.in-Op2.left.value in
    let right = expr_view c.in-Op2.right.value in
    let seen : expr_view (Expr.Op2 c.in-Op2.op c.in-Op2.left c.in-Op2.right) ≡ binary_of c.in-Op2.op left right = search (rules, the_lemmas) in
    let size : expr_size (expr_view c.args.expression.now) ≡ suc (expr_size left + expr_size right) = ap (λ (e : Expr). expr_size (expr_view e)) c.in-Op2.is ∙ ap expr_size seen in
    let same : expr_size (expr_view c.deref-in-Op2-2.result.now) ≡ expr_size right = ap (λ (e : Expr). expr_size (expr_view e)) c.deref-in-Op2-2.ensures in
    let here : is_all_spellable (binary_of c.in-Op2.op left right) ≡ true = sym (ap (λ (e : Expr). is_all_spellable (expr_view e)) c.in-Op2.is ∙ ap is_all_spellable seen) ∙ c.requires in
    (omega (arith, size, same, c.decreases), subst (λ (e : Expr). is_all_spellable (expr_view e) ≡ true) (sym c.deref-in-Op2-2.ensures) (split_spellable left right here).1)

pub evaluate_all_after-evaluate_after-requires : goal.evaluate_all_after-evaluate_after-requires
evaluate_all_after-evaluate_after-requires t c =
    let here : slice_get (exprs_view c.args.expressions.now) c.loop-expression.expression-index ≡ Some (expr_view c.expression-item.result)
    = subst (λ es. slice_get es c.loop-expression.expression-index ≡ Some (expr_view c.expression-item.result)) c.as_slice-expression-items.ensures (slice_get-read expr_view c.as_slice-expression-items.result.now c.loop-expression.expression-index c.expression-item.result (omega arith) c.expression-item.is) in
    let small : expr_size (expr_view c.expression-item.result) ≤ exprs_size (from_list (exprs_view c.args.expressions.now)) = size-element _ _ _ here in
    (omega (arith, small, c.decreases), element_spellable (exprs_view c.args.expressions.now) c.loop-expression.expression-index (expr_view c.expression-item.result) c.requires here)

pub evaluate_all_after-loop-expression-preserved : goal.evaluate_all_after-loop-expression-preserved
evaluate_all_after-loop-expression-preserved t c =
    let es = exprs_view c.args.expressions.now in
    let i = c.loop-expression.expression-index in
    let e = expr_view c.expression-item.result in
    let bs = store_view c.args.store.now in
    let whole = all_cases_after bs (faults_view c.args.faults) (atoms_view c.args.conds) (from_list es) in
    let here : slice_get es i ≡ Some e
    = subst (λ xs. slice_get xs i ≡ Some e) c.as_slice-expression-items.ensures (slice_get-read expr_view c.as_slice-expression-items.result.now i c.expression-item.result (omega arith) c.expression-item.is) in
    let before : rest_after bs (faults_view c.loop-expression.faults) (atoms_view c.loop-expression.conds) (terms_view c.loop-expression.terms) (e ∷ drop (i + 1) es) ≡ whole
    = subst (λ xs. rest_after bs (faults_view c.loop-expression.faults) (atoms_view c.loop-expression.conds) (terms_view c.loop-expression.terms) xs ≡ whole) (dropped_at es i e here) c.loop-expression.invariant in
    let cases : cases_after bs (faults_view c.loop-expression.faults) (atoms_view c.loop-expression.conds) e ≡ result_given (faults_view c.in_ok-so_far.field-0.faults) (atoms_view c.in-Some.field-0.conds) (term_view c.in-Some.field-0.result)
    = sym c.in_ok-so_far.ensures ∙ good_cases c.in_ok-so_far.field-0 c.in-Some.field-0 c.in-Some.is in
    subst (λ ts. rest_after bs (faults_view c.in_ok-so_far.field-0.faults) (atoms_view c.in-Some.field-0.conds) ts (drop (i + 1) es) ≡ whole) (sym c.in_ok-push-in-Some.ensures.ok)
    (at_term bs _ _ _ _ (terms_view c.loop-expression.terms) e (drop (i + 1) es) (term_view c.in-Some.field-0.result) whole cases before)

pub evaluate_all_after-returns-in-None : goal.evaluate_all_after-returns-in-None
evaluate_all_after-returns-in-None t c =
    let es = exprs_view c.args.expressions.now in
    let i = c.loop-expression.expression-index in
    let e = expr_view c.expression-item.result in
    let bs = store_view c.args.store.now in
    let whole = all_cases_after bs (faults_view c.args.faults) (atoms_view c.args.conds) (from_list es) in
    let here : slice_get es i ≡ Some e
    = subst (λ xs. slice_get xs i ≡ Some e) c.as_slice-expression-items.ensures (slice_get-read expr_view c.as_slice-expression-items.result.now i c.expression-item.result (omega arith) c.expression-item.is) in
    let before : rest_after bs (faults_view c.loop-expression.faults) (atoms_view c.loop-expression.conds) (terms_view c.loop-expression.terms) (e ∷ drop (i + 1) es) ≡ whole
    = subst (λ xs. rest_after bs (faults_view c.loop-expression.faults) (atoms_view c.loop-expression.conds) (terms_view c.loop-expression.terms) xs ≡ whole) (dropped_at es i e here) c.loop-expression.invariant in
    at_fault bs (faults_view c.loop-expression.faults) (faults_view c.in_ok-so_far.field-0.faults) (atoms_view c.loop-expression.conds) (terms_view c.loop-expression.terms) e (drop (i + 1) es) whole
    (sym c.in_ok-so_far.ensures ∙ no_good c.in_ok-so_far.field-0 c.in-None.is) before
