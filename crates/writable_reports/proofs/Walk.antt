-- A test of all elements of a list, as a loop does it: one by one, and the rest of the list is what is left to test.
use Rattle.std.proofs.Common.{◌≡◌, ◌≤◌, ℕ, zero, suc, ◌+◌, List, [], ◌∷◌, length, drop, Bool, true, false, ◌&&◌, Some, slice_get, refl, sym, ap, ◌∙◌, arith, add-one}

drop_next : {X : Type 0} (xs : List X) (i : ℕ) (x : X) → slice_get xs i ≡ Some x → drop i xs ≡ x ∷ drop (suc i) xs
drop_next [] i x is = absurd (cc)
drop_next (y ∷ ys) zero x is = let same : y ≡ x = cc in ap (λ z. z ∷ ys) same
drop_next (y ∷ ys) (suc i) x is = drop_next ys i x is

nothing_left : {X : Type 0} (i : ℕ) → ◌≡◌ {A = List X} (drop i []) []
nothing_left zero = refl
nothing_left (suc i) = refl

none_left : {X : Type 0} (xs : List X) (i : ℕ) → length xs ≤ i → drop i xs ≡ []
none_left [] i past = nothing_left i
none_left (x ∷ xs) zero past = absurd (omega (arith, past))
none_left (x ∷ xs) (suc i) past = none_left xs i (omega (arith, past))

-- f tests each element
module _ {X : Type 0} (test : X → Bool) (f : List X → Bool) (none : f [] ≡ true) (each : (x : X) (xs : List X) → f (x ∷ xs) ≡ (test x && f xs)) where
  next : (xs : List X) (i : ℕ) (x : X) (b : Bool) → f (drop i xs) ≡ f xs → slice_get xs i ≡ Some x → b ≡ test x → f xs ≡ (b && f (drop (suc i) xs))
  next xs i x b before is tested =
      sym before ∙ ap f (drop_next xs i x is) ∙ each x (drop (suc i) xs) ∙ ap (λ c. c && f (drop (suc i) xs)) (sym tested)

  pub goes_on : (xs : List X) (i : ℕ) (x : X) (b : Bool) → f (drop i xs) ≡ f xs → slice_get xs i ≡ Some x → b ≡ test x → b ≡ true → f (drop (i + 1) xs) ≡ f xs
  goes_on xs i x b before is tested passes =
      rw add-one (sym (next xs i x b before is tested ∙ ap (λ c. c && f (drop (suc i) xs)) passes))

  pub fails : (xs : List X) (i : ℕ) (x : X) (b : Bool) → f (drop i xs) ≡ f xs → slice_get xs i ≡ Some x → b ≡ test x → b ≡ false → false ≡ f xs
  fails xs i x b before is tested failed = sym (next xs i x b before is tested ∙ ap (λ c. c && f (drop (suc i) xs)) failed)

  pub ends : (xs : List X) (i : ℕ) → f (drop i xs) ≡ f xs → length xs ≤ i → true ≡ f xs
  ends xs i before past = sym (sym before ∙ ap f (none_left xs i past) ∙ none)
