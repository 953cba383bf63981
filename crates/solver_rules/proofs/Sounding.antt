-- Where the equalities of a list are true, equated terms have equal values.
use Rattle.std.proofs.Common.{◌≡◌, ⊎_elim, ◌⊎◌, inl, inr, ℕ, zero, suc, List, [], ◌∷◌, true, Option, Some, None, slice_get, refl, sym, ap, ◌∙◌, subst}
use Rattle.std.specs.Option.{option_map, is_some}
use Rattle.std.proofs.lemmas.Option.{same_Some, option_and_then_some}
use Rattle.gil_values.specs.Pure.{PureValue, list, from_list}
use Rattle.pure_terms.specs.declared.variables.Sort.{Sort}
use Rattle.pure_terms.specs.Meaning.{both, value, values, truth, IsOver}
use Rattle.pure_terms.specs.Pure.{PureTerm, list_of, PureTerms, no_terms, term_and, to_list, PureAtom, term_of}
use Rattle.solver_proof.specs.Chains.{equality_of}
use Rattle.solver_proof.proofs.Truths.{SameValues, equality-linked}
use Rattle.equality_core.specs.Equating.{Equates, itself, by_atom, turned, joined, by_elements}

record HasValues (v : List PureValue) (ts : PureTerms) (ws : List PureValue) : Type 0 where
  are : values v ts ≡ Some ws

pub both_some : (o : Option PureValue) (p : Option (List PureValue)) (ws : List PureValue) → both o p ≡ Some ws → (w : PureValue) × ((us : List PureValue) × ((o ≡ Some w) × ((p ≡ Some us) × (w ∷ us ≡ ws))))
both_some (Some w) (Some us) ws is = (w, (us, (refl, (refl, same_Some (w ∷ us) ws is))))
both_some (Some w) None ws is = cc
both_some None p ws is = cc

pub element_value : (v : List PureValue) (ts : PureTerms) (ws : List PureValue) (j : ℕ) (s : PureTerm) → values v ts ≡ Some ws → slice_get (to_list ts) j ≡ Some s → (w : PureValue) × ((value v s ≡ Some w) × (slice_get ws j ≡ Some w))
element_value v no_terms ws j s is at = cc
element_value v (term_and t ts) ws zero s is at =
    let (w, (us, (first, (rest, same)))) = both_some (value v t) (values v ts) ws is in
    (w, (ap (value v) (sym (same_Some t s at)) ∙ first, ap (λ (xs : List PureValue). slice_get xs 0) (sym same)))
element_value v (term_and t ts) ws (suc j) s is at =
    let (w, (us, (first, (rest, same)))) = both_some (value v t) (values v ts) ws is in
    let (u, (has, there)) = element_value v ts us j s rest at in
    (u, (has, ap (λ (xs : List PureValue). slice_get xs (suc j)) (sym same) ∙ there))

pub list_value : (v : List PureValue) (ts : PureTerms) (w : PureValue) → value v (list_of ts) ≡ Some w → (ws : List PureValue) × ((values v ts ≡ Some ws) × (w ≡ list (from_list ws)))
list_value v ts w is = by_values (values v ts) refl is where
  by_values : (o : Option (List PureValue)) → values v ts ≡ o → option_map (λ ws. list (from_list ws)) o ≡ Some w → (ws : List PureValue) × ((values v ts ≡ Some ws) × (w ≡ list (from_list ws)))
  by_values (Some ws) are same = (ws, (are, sym (same_Some (list (from_list ws)) w same)))
  by_values None are same = let e : None ≡ Some w = same in cc

from_list_same : (us ws : List PureValue) → from_list us ≡ from_list ws → us ≡ ws
from_list_same [] [] e = refl
from_list_same [] (w ∷ ws) e = cc
from_list_same (u ∷ us) [] e = cc
from_list_same (u ∷ us) (w ∷ ws) e =
    let first : u ≡ w = cc in
    let rest : from_list us ≡ from_list ws = cc in
    (λ i. first i ∷ from_list_same us ws rest i)

pub lists_same : (us ws : List PureValue) → list (from_list us) ≡ list (from_list ws) → us ≡ ws
lists_same us ws e = let inner : from_list us ≡ from_list ws = cc in from_list_same us ws inner

module _ (vars : List Sort) (atoms : List PureAtom) (v : List PureValue) (over : (i : ℕ) (a : PureAtom) → slice_get atoms i ≡ Some a → IsOver vars (term_of a)) (all : (i : ℕ) (a : PureAtom) → slice_get atoms i ≡ Some a → is_some (equality_of a) ≡ true → truth v a ≡ true) where
  pub sound : (s t : PureTerm) → Equates atoms s t → (s ≡ t) ⊎ SameValues v s t
  sound s t itself = inl refl
  sound s t (by_atom i e) = inr (option_and_then_some equality_of (slice_get atoms i) (record { left = s; right = t }) e (λ a at said. (equality-linked vars v a (record { left = s; right = t }) said (all i a at (ap is_some said)) (over i a at)).same))
  sound s t (turned e) = ⊎_elim (λ same. inl (sym same)) (λ h. inr (record { value_of_both = h.value_of_both; left = h.right; right = h.left })) (sound t s e)
  sound s t (joined {t = u} e f) = along (sound s u e) (sound u t f) where
    along : (s ≡ u) ⊎ SameValues v s u → (u ≡ t) ⊎ SameValues v u t → (s ≡ t) ⊎ SameValues v s t
    along (inl a) (inl b) = inl (a ∙ b)
    along (inl a) (inr b) = inr (subst (λ x. SameValues v x t) (sym a) b)
    along (inr a) (inl b) = inr (subst (SameValues v s) b a)
    along (inr a) (inr b) = inr (record { value_of_both = a.value_of_both; left = a.left; right = b.right ∙ sym b.left ∙ a.right })
  sound s t (by_elements {ts = ts} {us = us} i e at_s at_t) = inside (sound (list_of ts) (list_of us) e) where
    same_lists : (xs ys : PureTerms) → list_of xs ≡ list_of ys → xs ≡ ys
    same_lists xs ys same = cc

    inside : (list_of ts ≡ list_of us) ⊎ SameValues v (list_of ts) (list_of us) → (s ≡ t) ⊎ SameValues v s t
    inside (inl same) = inl (same_Some s t (sym at_s ∙ ap (λ xs. slice_get (to_list xs) i) (same_lists ts us same) ∙ at_t))
    inside (inr h) =
        let (ws, (are_s, is_s)) = list_value v ts h.value_of_both h.left in
        let (xs, (are_t, is_t)) = list_value v us h.value_of_both h.right in
        let same : ws ≡ xs = lists_same ws xs (sym is_s ∙ is_t) in
        let (w, (has_s, there)) = element_value v ts ws i s are_s at_s in
        let (x, (has_t, also)) = element_value v us xs i t are_t at_t in
        inr (record { value_of_both = w; left = has_s; right = has_t ∙ ap Some (same_Some x w (sym also ∙ ap (λ (zs : List PureValue). slice_get zs i) (sym same) ∙ there)) })

  pub equated_same : (s t : PureTerm) → Equates atoms s t → value v s ≡ value v t
  equated_same s t e = ⊎_elim (λ same. ap (value v) same) (λ h. h.left ∙ sym h.right) (sound s t e)
