-- What is found in lists.
use Rattle.std.proofs.Common.{◌≡◌, ◌⊎◌, inl, inr, ℕ, zero, suc, Some, slice_get, subst, ◌-◌, ◌≤◌, List, [], ◌∷◌, length, get_or, take, drop, refl, sym, ap, ◌∙◌, arith}
use Rattle.std.proofs.lemmas.List.{take_all}
use Rattle.std.proofs.lemmas.Option.{same_Some}
use Rattle.pure_terms.specs.Pure.{PureTerm, PureTerms, no_terms, term_and, to_list, PureAtom}
use Rattle.solver_rules.specs.Rules.{SaysDifferent, ElementsDiffer}

pub elements_first : (list : List PureAtom) (s t : PureTerm) (ts us : PureTerms) → SaysDifferent list s t → ElementsDiffer list (term_and s ts) (term_and t us)
elements_first list s t ts us h = record { place = 0; left = s; right = t; at_left = refl; at_right = refl; differ = h }

pub elements_rest : (list : List PureAtom) (s t : PureTerm) (ts us : PureTerms) → ElementsDiffer list ts us → ElementsDiffer list (term_and s ts) (term_and t us)
elements_rest list s t ts us h = record { place = suc h.place; left = h.left; right = h.right; at_left = h.at_left; at_right = h.at_right; differ = h.differ }

-- a list that isn't empty, as the code takes it apart
pub split_first : {X : Type 0} (xs : List X) (x : X) → 1 ≤ length xs → x ≡ get_or xs 0 x → xs ≡ x ∷ take (length xs - 1) (drop 1 xs)
split_first [] x h is = absurd (omega (arith, h))
split_first (y ∷ ys) x h is = (λ i. (sym is i) ∷ ys) ∙ ap (λ zs. x ∷ zs) (sym (all ys)) where
  all : {X : Type 0} (ys : List X) → take (suc (length ys) - 1) ys ≡ ys
  all ys = ap (λ n. take n ys) (less (length ys)) ∙ take_all (length ys) ys (same (length ys)) where
    less : (n : ℕ) → suc n - 1 ≡ n
    less n = omega arith

    same : (n : ℕ) → n ≤ n
    same n = omega arith

nowhere : (i : ℕ) (t : PureTerm) → slice_get [] i ≡ Some t → ⊥
nowhere i t at = cc

-- nothing differs where a list of terms is empty, and else the first elements do or some of the others
pub elements_nowhere_left : (list : List PureAtom) (us : PureTerms) → ElementsDiffer list no_terms us → ⊥
elements_nowhere_left list us h = nowhere h.place h.left h.at_left

pub elements_nowhere_right : (list : List PureAtom) (ts : PureTerms) → ElementsDiffer list ts no_terms → ⊥
elements_nowhere_right list ts h = nowhere h.place h.right h.at_right

pub elements_cases : (list : List PureAtom) (s t : PureTerm) (ts us : PureTerms) → ElementsDiffer list (term_and s ts) (term_and t us) → SaysDifferent list s t ⊎ ElementsDiffer list ts us
elements_cases list s t ts us h = by_place h.place h.left h.right h.at_left h.at_right h.differ where
  by_place : (i : ℕ) (u w : PureTerm) → slice_get (to_list (term_and s ts)) i ≡ Some u → slice_get (to_list (term_and t us)) i ≡ Some w → SaysDifferent list u w → SaysDifferent list s t ⊎ ElementsDiffer list ts us
  by_place zero u w left right differ = inl (subst (λ z. SaysDifferent list s z) (sym (same_Some t w right)) (subst (λ z. SaysDifferent list z w) (sym (same_Some s u left)) differ))
  by_place (suc i) u w left right differ = inr (record { place = i; left = u; right = w; at_left = left; at_right = right; differ = differ })
