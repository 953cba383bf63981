-- Loose disequalities as they are listed.
use Rattle.std.proofs.Common.{◌≡◌, ⊎_elim, ◌⊎◌, inl, inr, ℕ, zero, suc, ◌+◌, ◌<◌, ◌≤◌, List, [], ◌∷◌, ◌++◌, length, Some, slice_get, map, sym, ap, ◌∙◌, subst, arith}
use Rattle.std.specs.Prelude.{All}
use Rattle.std.specs.Option.{option_map}
use Rattle.std.proofs.lemmas.Option.{same_Some, slice_get-map, slice_get_within}
use Rattle.std.proofs.lemmas.Bool.{cases_eq}
use Rattle.linear_core.proofs.Meeting.{all_first, all_rest, all_from}
use Rattle.pure_terms.specs.Pure.{PureAtom}
use Rattle.solver_proof.proofs.Growing.{found_left, found_right}
use Rattle.equality_core.specs.Classes.{PureClasses, given_list}
use Rattle.solver_rules.specs.Laws.{HasLoose}
use Rattle.solver_next.specs.Loose.{IsLooseAtom, IsPushed, StandsIn, AreSomeLoose, AreLoose}

old_or_last : (xs : List PureAtom) (y : PureAtom) (j : ℕ) (a : PureAtom) → slice_get (xs ++ y ∷ []) j ≡ Some a → (slice_get xs j ≡ Some a) ⊎ (y ≡ a)
old_or_last [] y zero a at = inr (same_Some y a at)
old_or_last [] y (suc j) a at = cc
old_or_last (x ∷ xs) y zero a at = inl at
old_or_last (x ∷ xs) y (suc j) a at = old_or_last xs y j a at

pub pushed_some : (c : PureClasses) (a : PureAtom) (old new : List PureAtom) → StandsIn (given_list c) a → AreSomeLoose c old → IsPushed c a old new → AreSomeLoose c new
pushed_some c a old new there some (inl pushed) = λ j b at. ⊎_elim (λ before. some j b before) (λ same. subst (λ x. IsLooseAtom c x × StandsIn (given_list c) x) same (pushed.0, there))
    (old_or_last old a j b (ap (λ l. slice_get l j) (sym pushed.1) ∙ at))
pushed_some c a old new there some (inr kept) = subst (AreSomeLoose c) (sym kept.1) some

pub pushed_still : (c : PureClasses) (a : PureAtom) (old new : List PureAtom) (b : PureAtom) → IsPushed c a old new → StandsIn old b → StandsIn new b
pushed_still c a old new b (inl pushed) stands = record { place = stands.place; at = ap (λ l. slice_get l stands.place) pushed.1 ∙ found_left old (a ∷ []) stands.place b stands.at }
pushed_still c a old new b (inr kept) stands = subst (λ l. StandsIn l b) (sym kept.1) stands

pub pushed_here : (c : PureClasses) (a : PureAtom) (old new : List PureAtom) → IsPushed c a old new → IsLooseAtom c a → StandsIn new a
pushed_here c a old new (inl pushed) loose = record { place = length old; at = ap (λ l. slice_get l (length old)) pushed.1 ∙ found_right old (a ∷ []) (length old) 0 (last (length old)) } where
  last : (n : ℕ) → n ≡ n + 0
  last n = omega arith
pushed_here c a old new (inr kept) loose = absurd (kept.0 loose)

-- what values need
pub has_loose : (c : PureClasses) (apart : List PureAtom) → AreLoose c apart → HasLoose c apart
has_loose c apart are i a s t at loose not_both =
    let stands = are.all i a at (record { left = s; right = t; loose = loose }) in
    (stands.place, stands.at)

-- ---- what holds of each item

module _ {X Y : Type 0} (view : X → Y) (P : Y → Type 0) where
  pub each_seen : (xs : List X) → All (λ x. P (view x)) xs → (i : ℕ) (y : Y) → slice_get (map view xs) i ≡ Some y → P y
  each_seen [] all i y at = cc
  each_seen (x ∷ xs) all zero y at = subst P (same_Some (view x) y at) (all_first (λ x. P (view x)) x xs all)
  each_seen (x ∷ xs) all (suc i) y at = each_seen xs (all_rest (λ x. P (view x)) x xs all) i y at

  pub all_seen : (xs : List X) → ((i : ℕ) (y : Y) → slice_get (map view xs) i ≡ Some y → P y) → All (λ x. P (view x)) xs
  all_seen xs each = all_from (λ x. P (view x)) xs (λ i x at. each i (view x) (slice_get-map view xs i ∙ ap (option_map view) at))

-- and of each before a place, as a loop goes over them
module _ {X : Type 0} (xs : List X) (P : X → Type 0) (i : ℕ) where
  abbrev pub EachBefore : ℕ → Type 0
  EachBefore n = (k : ℕ) (x : X) → k < n → slice_get xs k ≡ Some x → P x

  pub each_more : (x : X) → slice_get xs i ≡ Some x → EachBefore i → P x → EachBefore (i + 1)
  each_more x is before here k y less at = ⊎_elim (λ e. subst P (same_Some x y (sym is ∙ ap (slice_get xs) (sym e) ∙ at)) here) (λ other. before k y (omega (arith, less, other)) at) (cases_eq k i)

  pub each_all : length xs ≤ i → EachBefore i → (k : ℕ) (x : X) → slice_get xs k ≡ Some x → P x
  each_all past before k x at =
      let within : k < length xs = slice_get_within xs k x at in
      before k x (omega (arith, within, past)) at
