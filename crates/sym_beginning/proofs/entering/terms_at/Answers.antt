use Rattle.std.proofs.Common.{◌≡◌, ◌∷◌, ◌++◌, [], take, Some, sym, ap, subst, ◌∙◌}
use Rattle.std.proofs.lemmas.List.{take_more}
use Rattle.pure_terms.specs.View.{term_view, terms_view}
use Rattle.sym_evaluation.specs.Pure.{term_at}
use Rattle.sym_evaluation.specs.View.{store_view}
use Rattle.sym_beginning.specs.Entering.{AreTermsAt}
use Rattle.sym_beginning.proofs.EntryLaws.{terms_more}
use Rattle.sym_beginning.proofs.entering.terms_at.Goals as goal

pub loop-name-preserved : goal.loop-name-preserved
loop-name-preserved c =
    let bs = store_view c.args.store.now in
    let xs = c.as_slice-name-items.result.now in
    let i = c.loop-name.name-index in
    let x = c.name-item.result in
    let there : term_at bs x ≡ Some (term_view c.in_ok-copy-in-Some.field-0) = sym c.in-Some.ensures ∙ ap Some (sym c.in_ok-copy-in-Some.ensures) in
    subst (λ names. AreTermsAt bs names (terms_view c.push.new.self)) (sym (take_more xs i x c.loop-name-test.true ∙ ap (λ y. take i xs ++ y ∷ []) (sym c.name-item.is)))
    (subst (AreTermsAt bs (take i xs ++ x ∷ [])) (sym c.in_ok-push-in-Some.ensures.ok) (terms_more bs (take i xs) (terms_view c.loop-name.terms) x (term_view c.in_ok-copy-in-Some.field-0) c.loop-name.invariant there))
