-- A walk along equalities finds where they lead.
use Rattle.std.proofs.Common.{◌≡◌, ◌↔◌, ⊎_elim, ◌⊎◌, inl, inr, ℕ, zero, suc, ◌+◌, List, [], ◌∷◌, ◌++◌, take, Bool, true, false, ◌&&◌, ◌||◌, if◌then◌else◌, Option, Some, None, slice_get, IsTrue, refl, sym, ap, ◌∙◌, add-one}
use Rattle.std.specs.Option.{option_map, option_and_then}
use Rattle.std.proofs.lemmas.Bool.{false≢true, and_parts, or_cases, or_left, or_right}
use Rattle.pure_terms.specs.Equality.{same_term}
use Rattle.pure_terms.specs.EqualityLaws.{same_term-same, same_term-refl}
use Rattle.pure_terms.specs.Kinds.{known_kind}
use Rattle.pure_terms.specs.Pure.{PureTerm, PureAtom}
use Rattle.pure_terms.proofs.Evaluated.{take-push}
use Rattle.solver_proof.specs.declared.proofs.ChainEnd.{ChainEnd}
use Rattle.solver_proof.specs.Chains.{Sides, equality_at, disequality_at, KindFact, kind_fact_at, AreEqualAt, Leads, are_sides, is_against, are_against, end_closes}
use Rattle.solver_proof.specs.Closing.{ChainCloses}
use Rattle.solver_proof.specs.Walks.{other_side, step_from, walk_from, closes_at, closes_from, start_of_end, closes_itself, closes_from_either, closes_chain}
use Rattle.solver_proof.proofs.ChainSound.{never_different, never_other, never_itself}

-- ---- steps

-- one of the sides is s, and the other is u
AreSidesOf : Sides → PureTerm → PureTerm → Type 0
AreSidesOf sides s u = (sides ≡ record { left = s; right = u }) ⊎ (sides ≡ record { left = u; right = s })

from_other : (s u : PureTerm) (sides : Sides) (b c : Bool) → same_term sides.left s ≡ b → same_term sides.right s ≡ c → (if b then Some sides.right else (if c then Some sides.left else None)) ≡ Some u → AreSidesOf sides s u
unfolding AreSidesOf
from_other s u sides true c left right is =
    let second : sides.right ≡ u = cc in
    inl (λ i. record { left = same_term-same sides.left s left i; right = second i })
from_other s u sides false true left right is =
    let first : sides.left ≡ u = cc in
    inr (λ i. record { left = first i; right = same_term-same sides.right s right i })
from_other s u sides false false left right is = cc

to_other : (s u : PureTerm) (sides : Sides) → AreSidesOf sides s u → other_side s sides ≡ Some u
unfolding AreSidesOf
to_other s u sides (inl e) = ap (other_side s) e ∙ ap (λ (b : Bool). if b then Some u else (if same_term u s then Some s else None)) (same_term-refl s)
to_other s u sides (inr e) = ap (other_side s) e ∙ chosen (same_term u s) refl where
  chosen : (b : Bool) → same_term u s ≡ b → (if b then Some s else (if same_term s s then Some u else None)) ≡ Some u
  chosen true is = ap Some (sym (same_term-same u s is))
  chosen false is = ap (λ (b : Bool). if b then Some u else None) (same_term-refl s)

module _ (atoms : List PureAtom) where
  from_step : (s u : PureTerm) (i : ℕ) (o : Option Sides) → equality_at atoms i ≡ o → option_and_then (other_side s) o ≡ Some u → AreEqualAt atoms i s u
  unfolding AreSidesOf
  from_step s u i (Some sides) is e =
      ⊎_elim (λ straight. inl (is ∙ ap Some straight)) (λ across. inr (is ∙ ap Some across))
      (from_other s u sides (same_term sides.left s) (same_term sides.right s) refl refl e)
  from_step s u i None is e = cc

  to_step : (s u : PureTerm) (i : ℕ) → AreEqualAt atoms i s u → step_from atoms s i ≡ Some u
  unfolding AreSidesOf
  to_step s u i (inl is) = ap (option_and_then (other_side s)) is ∙ to_other s u _ (inl refl)
  to_step s u i (inr is) = ap (option_and_then (other_side s)) is ∙ to_other s u _ (inr refl)

  leads_on : (i : ℕ) (is : List ℕ) (s t : PureTerm) (o : Option PureTerm) → step_from atoms s i ≡ o → ((u : PureTerm) → walk_from atoms is u ≡ Some t → Leads atoms is u t)
      → option_and_then (walk_from atoms is) o ≡ Some t → (u : PureTerm) × (AreEqualAt atoms i s u × Leads atoms is u t)
  leads_on i is s t (Some u) step rest e = (u, (from_step s u i (equality_at atoms i) refl step, rest u e))
  leads_on i is s t None step rest e = cc

  pub walk-leads : (is : List ℕ) (s t : PureTerm) → walk_from atoms is s ≡ Some t → Leads atoms is s t
  walk-leads [] s t e = cc
  walk-leads (i ∷ is) s t e = leads_on i is s t (step_from atoms s i) refl (λ u. walk-leads is u t) e

  pub leads-walk : (is : List ℕ) (s t : PureTerm) → Leads atoms is s t → walk_from atoms is s ≡ Some t
  leads-walk [] s t leads = ap Some leads
  leads-walk (i ∷ is) s t (u, (here, leads)) = ap (option_and_then (walk_from atoms is)) (to_step s u i here) ∙ leads-walk is u t leads

  -- ---- a walk in a loop

  push_on : (is : List ℕ) (i : ℕ) (o : Option PureTerm) → ((u : PureTerm) → walk_from atoms (is ++ i ∷ []) u ≡ option_and_then (λ w. step_from atoms w i) (walk_from atoms is u))
      → option_and_then (walk_from atoms (is ++ i ∷ [])) o ≡ option_and_then (λ u. step_from atoms u i) (option_and_then (walk_from atoms is) o)
  push_on is i (Some u) rest = rest u
  push_on is i None rest = refl

  walk-push : (is : List ℕ) (i : ℕ) (s : PureTerm) → walk_from atoms (is ++ i ∷ []) s ≡ option_and_then (λ u. step_from atoms u i) (walk_from atoms is s)
  walk-push [] i s = last (step_from atoms s i) where
    last : (o : Option PureTerm) → option_and_then (walk_from atoms []) o ≡ o
    last (Some u) = refl
    last None = refl
  walk-push (j ∷ is) i s = push_on is i (step_from atoms s j) (λ u. walk-push is i u)

  pub walk_more : (is : List ℕ) (k i : ℕ) (s u w : PureTerm) → slice_get is k ≡ Some i → walk_from atoms (take k is) s ≡ Some u → step_from atoms u i ≡ Some w → walk_from atoms (take (k + 1) is) s ≡ Some w
  walk_more is k i s u w at so_far step =
      ap (λ js. walk_from atoms js s) (ap (λ n. take n is) (add-one k) ∙ take-push is k i at) ∙ walk-push (take k is) i s ∙ ap (option_and_then (λ x. step_from atoms x i)) so_far ∙ step

  stops_on : (is : List ℕ) (k : ℕ) (u : PureTerm) (o : Option PureTerm) → ((w : PureTerm) → walk_from atoms (take k is) w ≡ Some u → walk_from atoms is w ≡ None)
      → option_and_then (walk_from atoms (take k is)) o ≡ Some u → option_and_then (walk_from atoms is) o ≡ None
  stops_on is k u (Some w) rest e = rest w e
  stops_on is k u None rest e = refl

  pub walk_stops : (is : List ℕ) (k i : ℕ) (s u : PureTerm) → slice_get is k ≡ Some i → walk_from atoms (take k is) s ≡ Some u → step_from atoms u i ≡ None → walk_from atoms is s ≡ None
  walk_stops [] k i s u at so_far step = cc
  walk_stops (j ∷ is) zero i s u at so_far step =
      let here : j ≡ i = cc in
      let same : s ≡ u = cc in
      ap (option_and_then (walk_from atoms is)) ((λ x. step_from atoms (same x) (here x)) ∙ step)
  walk_stops (j ∷ is) (suc k) i s u at so_far step = stops_on is k u (step_from atoms s j) (λ w e. walk_stops is k i w u at e step) so_far

  -- ---- chains

  from_closes : (is : List ℕ) (end : ChainEnd) (s : PureTerm) (o : Option PureTerm) → walk_from atoms is s ≡ o → closes_at atoms end s o ≡ true → ChainCloses atoms is end
  from_closes is end s (Some t) walk closes = (s, (t, (walk-leads is s t walk, closes)))
  from_closes is end s None walk closes = absurd (false≢true closes)

  to_closes : (is : List ℕ) (end : ChainEnd) (s t : PureTerm) → Leads atoms is s t → end_closes atoms end s t ≡ true → closes_from atoms is end s ≡ true
  to_closes is end s t leads closes = ap (closes_at atoms end s) (leads-walk is s t leads) ∙ closes

  from_itself : (end : ChainEnd) (o : Option PureTerm) → closes_itself atoms end o ≡ true → ChainCloses atoms [] end
  from_itself end (Some s) closes = (s, (s, (refl, closes)))
  from_itself end None closes = absurd (false≢true closes)

  subject_is : (s : PureTerm) (o : Option KindFact) → is_against o s s ≡ true → option_map (λ (fact : KindFact). fact.subject) o ≡ Some s
  subject_is s (Some fact) h = ap Some (same_term-same fact.subject s (and_parts _ _ h).0)
  subject_is s None h = absurd (false≢true h)

  subjects_are : (s : PureTerm) (o p : Option KindFact) → are_against o p s s ≡ true → option_map (λ (fact : KindFact). fact.subject) o ≡ Some s
  subjects_are s (Some f) (Some g) h = ap Some (same_term-same f.subject s (and_parts _ _ (and_parts _ _ h).0).0)
  subjects_are s (Some f) None h = absurd (false≢true h)
  subjects_are s None p h = absurd (false≢true h)

  twice_so : (a b : Bool) → ((a && b) || (a && b)) ≡ true → a ≡ true
  twice_so true b h = refl
  twice_so false b h = h

  sides_are : (s : PureTerm) (o : Option Sides) → are_sides o s s ≡ true → option_map (λ (sides : Sides). sides.left) o ≡ Some s
  sides_are s (Some sides) h =
      ap Some (same_term-same sides.left s (twice_so (same_term sides.left s) (same_term sides.right s) h))
  sides_are s None h = absurd (false≢true h)

  -- what closes a chain that leads from a term to itself tells that term
  end_tells : (end : ChainEnd) (s : PureTerm) → end_closes atoms end s s ≡ true → start_of_end atoms end ≡ Some s
  end_tells ChainEnd.Literals s h = absurd (never_different s h)
  end_tells ChainEnd.Kinds s h = absurd (never_other (known_kind s) (known_kind s) refl h)
  end_tells ChainEnd.Fresh s h = absurd (⊎_elim (never_itself s) (never_itself s) (or_cases _ _ h))
  end_tells (ChainEnd.Not j) s h = sides_are s (disequality_at atoms j) h
  end_tells (ChainEnd.Kind j) s h = subject_is s (kind_fact_at atoms j) h
  end_tells (ChainEnd.BothKinds j k) s h = subjects_are s (kind_fact_at atoms j) (kind_fact_at atoms k) h

  from_either : (i : ℕ) (is : List ℕ) (end : ChainEnd) (o : Option Sides) → closes_from_either atoms (i ∷ is) end o ≡ true → ChainCloses atoms (i ∷ is) end
  from_either i is end (Some sides) closes =
      ⊎_elim (from_closes (i ∷ is) end sides.left (walk_from atoms (i ∷ is) sides.left) refl) (from_closes (i ∷ is) end sides.right (walk_from atoms (i ∷ is) sides.right) refl) (or_cases _ _ closes)
  from_either i is end None closes = absurd (false≢true closes)

  to_either : (i : ℕ) (is : List ℕ) (end : ChainEnd) (s t : PureTerm) → Leads atoms (i ∷ is) s t → end_closes atoms end s t ≡ true → closes_from_either atoms (i ∷ is) end (equality_at atoms i) ≡ true
  to_either i is end s t leads closes =
      let from_s : closes_from atoms (i ∷ is) end s ≡ true = to_closes (i ∷ is) end s t leads closes in
      ⊎_elim
      (λ straight. ap (closes_from_either atoms (i ∷ is) end) straight ∙ or_left _ _ from_s)
      (λ across. ap (closes_from_either atoms (i ∷ is) end) across ∙ or_right _ _ from_s)
      leads.1.0

pub chain_tested : (atoms : List PureAtom) (is : List ℕ) (end : ChainEnd) → IsTrue (closes_chain atoms is end) ↔ ChainCloses atoms is end
chain_tested atoms [] end = (
  from_itself atoms end (start_of_end atoms end),
  λ closes.
      let (s, (t, (same, ends))) = closes in
      let itself : end_closes atoms end s s ≡ true = ap (end_closes atoms end s) same ∙ ends in
      ap (closes_itself atoms end) (end_tells atoms end s itself) ∙ itself,
)
chain_tested atoms (i ∷ is) end = (
  from_either atoms i is end (equality_at atoms i),
  λ closes.
      let (s, (t, (leads, ends))) = closes in
      to_either atoms i is end s t leads ends,
)
