use Rattle.std.proofs.Common.{◌≡◌, [], ◌∷◌, ◌++◌, ap, subst, ◌∙◌}
use Rattle.pure_terms.specs.View.{term_view, terms_view}
use Rattle.sym_model.specs.Alternatives.{alternatives_view}
use Rattle.sym_states.proofs.Values.{ok_to}
use Rattle.invariant_rows.specs.Differing.{TellsTerms}
use Rattle.invariant_rows.proofs.differing.value_differs.Goals as goal

pub returns-clause-tells : goal.returns-clause-tells
returns-clause-tells c =
    let s = term_view c.args.left.now in
    let t = term_view c.args.right.now in
    let first : terms_view c.push.new.self ≡ s ∷ [] =
    c.in_ok-push.ensures.ok ∙ (ap (λ ts. ts ++ term_view c.in_ok-copy.field-0 ∷ []) c.new-first.ensures ∙ ap (λ k. k ∷ []) c.in_ok-copy.ensures) in
    let second : terms_view c.push-2.new.self ≡ t ∷ [] =
    c.in_ok-push-2.ensures.ok ∙ (ap (λ ts. ts ++ term_view c.in_ok-copy-2.field-0 ∷ []) c.new-second.ensures ∙ ap (λ k. k ∷ []) c.in_ok-copy-2.ensures) in
    ok_to c.values_differ.result (λ x. TellsTerms (terms_view c.push.new.self) (terms_view c.push-2.new.self) (alternatives_view x)) (λ x. TellsTerms (s ∷ []) (t ∷ []) (alternatives_view x))
    (λ x tells. subst (λ ss. TellsTerms ss (t ∷ []) (alternatives_view x)) first (subst (λ ts. TellsTerms (terms_view c.push.new.self) ts (alternatives_view x)) second tells)) c.values_differ.ensures.tells

pub returns-clause-asked : goal.returns-clause-asked
returns-clause-asked c = c.values_differ.ensures.asked
