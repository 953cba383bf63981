-- Chains of equalities: one after another, backwards, and in longer lists.
use Rattle.std.proofs.Common.{◌≡◌, ⊎_elim, inl, inr, ℕ, List, [], ◌∷◌, ◌++◌, reverse, ◌⊎◌, Option, Some, slice_get, refl, sym, ap, ◌∙◌, subst}
use Rattle.std.specs.Option.{option_and_then}
use Rattle.std.proofs.lemmas.List.{reverse-append}
use Rattle.std.proofs.lemmas.Option.{option_and_then_some, same_Some}
use Rattle.pure_terms.specs.Pure.{PureTerm, PureAtom}
use Rattle.solver_proof.specs.Chains.{Sides, equality_of, equality_at, AreEqualAt, Leads}
use Rattle.solver_proof.proofs.Growing.{found_left}
use Rattle.equality_core.specs.Nodes.{GoesBack}

pub equality_longer : (list extra : List PureAtom) (i : ℕ) (sides : Sides) → equality_at list i ≡ Some sides → equality_at (list ++ extra) i ≡ Some sides
equality_longer list extra i sides is = option_and_then_some equality_of (slice_get list i) sides is (λ a at says. ap (option_and_then equality_of) (found_left list extra i a at) ∙ says)

pub leads_append : (list : List PureAtom) (is js : List ℕ) (s t u : PureTerm) → Leads list is s t → Leads list js t u → Leads list (is ++ js) s u
leads_append list [] js s t u same rest = subst (λ x. Leads list js x u) (sym same) rest
leads_append list (i ∷ is) js s t u (w, (step, more)) rest = (w, (step, leads_append list is js w t u more rest))

pub leads_one : (list : List PureAtom) (i : ℕ) (s t : PureTerm) → AreEqualAt list i s t → Leads list (i ∷ []) s t
leads_one list i s t step = (t, (step, refl))

pub turned_step : (list : List PureAtom) (i : ℕ) (s t : PureTerm) → AreEqualAt list i s t → AreEqualAt list i t s
turned_step list i s t (inl e) = inr e
turned_step list i s t (inr e) = inl e

pub leads_reverse : (list : List PureAtom) (is : List ℕ) (s t : PureTerm) → Leads list is s t → Leads list (reverse is) t s
leads_reverse list [] s t same = sym same
leads_reverse list (i ∷ is) s t (w, (step, more)) =
    subst (λ js. Leads list js t s) (sym (reverse-append (i ∷ []) is))
    (leads_append list (reverse is) (i ∷ []) t w s (leads_reverse list is w t more) (leads_one list i w s (turned_step list i s w step)))

pub leads_longer : (list extra : List PureAtom) (is : List ℕ) (s t : PureTerm) → Leads list is s t → Leads (list ++ extra) is s t
leads_longer list extra [] s t same = same
leads_longer list extra (i ∷ is) s t (w, (step, more)) =
    (w, (⊎_elim (λ e. inl (equality_longer list extra i (record { left = s; right = w }) e)) (λ e. inr (equality_longer list extra i (record { left = w; right = s }) e)) step, leads_longer list extra is w t more))

-- where two chains share their ends and lead to one term, they meet where what they share begins

pub leads_split : (list : List PureAtom) (is js : List ℕ) (s u : PureTerm) → Leads list (is ++ js) s u → (t : PureTerm) × (Leads list is s t × Leads list js t u)
leads_split list [] js s u leads = (s, (refl, leads))
leads_split list (i ∷ is) js s u (w, (step, more)) =
    let rest = leads_split list is js w u more in
    (rest.0, ((w, (step, rest.1.0)), rest.1.1))

-- an equality leads to a term from one other term only
step_from : (o : Option Sides) (s t u : PureTerm) → (o ≡ Some (record { left = s; right = u })) ⊎ (o ≡ Some (record { left = u; right = s })) → (o ≡ Some (record { left = t; right = u })) ⊎ (o ≡ Some (record { left = u; right = t })) → s ≡ t
step_from o s t u (inl e) (inl f) = ap (λ sides. sides.left) (same_Some (record { left = s; right = u }) (record { left = t; right = u }) (sym e ∙ f))
step_from o s t u (inl e) (inr f) =
    let is : record { left = s; right = u } ≡ record { left = u; right = t } = same_Some (record { left = s; right = u }) (record { left = u; right = t }) (sym e ∙ f) in
    ap (λ (sides : Sides). sides.left) is ∙ ap (λ (sides : Sides). sides.right) is
step_from o s t u (inr e) (inl f) =
    let is : record { left = u; right = s } ≡ record { left = t; right = u } = same_Some (record { left = u; right = s }) (record { left = t; right = u }) (sym e ∙ f) in
    ap (λ (sides : Sides). sides.right) is ∙ ap (λ (sides : Sides). sides.left) is
step_from o s t u (inr e) (inr f) = ap (λ sides. sides.right) (same_Some (record { left = u; right = s }) (record { left = u; right = t }) (sym e ∙ f))

leads_from : (list : List PureAtom) (is : List ℕ) (s t u : PureTerm) → Leads list is s u → Leads list is t u → s ≡ t
leads_from list [] s t u first second = first ∙ sym second
leads_from list (i ∷ is) s t u (v, (step, more)) (w, (other, rest)) =
    let one : v ≡ w = leads_from list is v w u more rest in
    step_from (equality_at list i) s t w (subst (λ x. AreEqualAt list i s x) one step) other

-- the way along one chain and back along another leads from the one's beginning to the other's
pub leads_back : (list : List PureAtom) (along back way : List ℕ) (s t u : PureTerm) → GoesBack along back way → Leads list along s u → Leads list back t u → Leads list way s t
leads_back list along back way s t u goes first second =
    let ahead = leads_split list goes.ahead goes.shared s u (subst (λ is. Leads list is s u) goes.is_along first) in
    let behind = leads_split list goes.behind goes.shared t u (subst (λ is. Leads list is t u) goes.is_back second) in
    let meets : behind.0 ≡ ahead.0 = leads_from list goes.shared behind.0 ahead.0 u behind.1.1 ahead.1.1 in
    let down : Leads list goes.behind t ahead.0 = subst (λ x. Leads list goes.behind t x) meets behind.1.0 in
    subst (λ is. Leads list is s t) (sym goes.is_way) (leads_append list goes.ahead (reverse goes.behind) s ahead.0 t ahead.1.0 (leads_reverse list goes.behind t ahead.0 down))
