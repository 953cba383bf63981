-- Lists of terms, compared element by element.
use Rattle.std.proofs.Common.{◌≡◌, ℕ, ◌≤◌, List, take, length, true, false, Some, slice_get, sym, ap, ◌∙◌}
use Rattle.std.proofs.lemmas.Bool.{false_from_ne_true}
use Rattle.std.proofs.lemmas.List.{take_all}
use Rattle.pure_terms.specs.Equality.{same_term, same_terms}
use Rattle.pure_terms.specs.EqualityLaws.{same_term-refl, same_terms-same, same_terms-refl}
use Rattle.pure_terms.specs.Pure.{PureTerm, from_list, to_list, to_list-from_list}

same_lists : (ts us : List PureTerm) → same_terms (from_list ts) (from_list us) ≡ true → ts ≡ us
same_lists ts us h = sym (to_list-from_list ts) ∙ ap to_list (same_terms-same _ _ h) ∙ to_list-from_list us

pub unequal_lengths : (ts us : List PureTerm) → (length ts ≡ length us → ⊥) → false ≡ same_terms (from_list ts) (from_list us)
unequal_lengths ts us differ = sym (false_from_ne_true _ (λ h. differ (ap length (same_lists ts us h))))

pub unequal_terms : (ts us : List PureTerm) (i : ℕ) (t u : PureTerm) → slice_get ts i ≡ Some t → slice_get us i ≡ Some u → same_term t u ≡ false → false ≡ same_terms (from_list ts) (from_list us)
unequal_terms ts us i t u here there differ = sym (false_from_ne_true _ (λ h.
    let alike : Some t ≡ Some u = sym here ∙ ap (λ ws. slice_get ws i) (same_lists ts us h) ∙ there in
    let same : t ≡ u = cc in
    let both : false ≡ true = sym differ ∙ ap (same_term t) (sym same) ∙ same_term-refl t in
    cc))

pub equal_lists : (ts us : List PureTerm) (i : ℕ) → length ts ≤ i → length us ≤ i → take i ts ≡ take i us → true ≡ same_terms (from_list ts) (from_list us)
equal_lists ts us i past past_too same =
    sym (ap (same_terms (from_list ts)) (ap from_list (sym (sym (take_all i ts past) ∙ same ∙ take_all i us past_too))) ∙ same_terms-refl (from_list ts))
