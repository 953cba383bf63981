-- Tests of two lists element by element, as a loop over both makes them.
use Rattle.std.proofs.Common.{◌≡◌, ◌≢◌, ℕ, zero, suc, ◌+◌, ◌≤◌, List, [], ◌∷◌, take, length, Bool, true, false, ◌&&◌, Some, slice_get, refl, sym, ap, ◌∙◌, add-one}
use Rattle.std.proofs.lemmas.Bool.{and_from, and_parts, and_left, and_right}
use Rattle.std.proofs.lemmas.List.{take_all}

module _ {A B : Type 0} (f : A → B → Bool) where
  -- as many elements, each of which passes with its partner
  abbrev pub pairs_all : List A → List B → Bool
  pairs_all [] [] = true
  pairs_all (a ∷ xs) (b ∷ ys) = f a b && pairs_all xs ys
  pairs_all [] (b ∷ ys) = false
  pairs_all (a ∷ xs) [] = false

  pub pairs_unequal : (xs : List A) (ys : List B) → length xs ≢ length ys → pairs_all xs ys ≡ false
  pairs_unequal [] [] differ = absurd (differ refl)
  pairs_unequal [] (b ∷ ys) differ = refl
  pairs_unequal (a ∷ xs) [] differ = refl
  pairs_unequal (a ∷ xs) (b ∷ ys) differ = and_right (f a b) (pairs_all xs ys) (pairs_unequal xs ys (λ e. differ (ap suc e)))

  pub pairs_fail : (xs : List A) (ys : List B) (i : ℕ) (a : A) (b : B) → slice_get xs i ≡ Some a → slice_get ys i ≡ Some b → f a b ≡ false → pairs_all xs ys ≡ false
  pairs_fail [] ys i a b at_a at_b fails = cc
  pairs_fail (x ∷ xs) [] i a b at_a at_b fails = refl
  pairs_fail (x ∷ xs) (y ∷ ys) zero a b at_a at_b fails =
      let left : x ≡ a = cc in
      let right : y ≡ b = cc in
      and_left (f x y) (pairs_all xs ys) ((λ j. f (left j) (right j)) ∙ fails)
  pairs_fail (x ∷ xs) (y ∷ ys) (suc i) a b at_a at_b fails = and_right (f x y) (pairs_all xs ys) (pairs_fail xs ys i a b at_a at_b fails)

  at_next : (xs : List A) (ys : List B) (i : ℕ) (a : A) (b : B) → pairs_all (take i xs) (take i ys) ≡ true → slice_get xs i ≡ Some a → slice_get ys i ≡ Some b → f a b ≡ true
      → pairs_all (take (suc i) xs) (take (suc i) ys) ≡ true
  at_next [] ys i a b before at_a at_b passes = cc
  at_next (x ∷ xs) [] i a b before at_a at_b passes = cc
  at_next (x ∷ xs) (y ∷ ys) zero a b before at_a at_b passes =
      let left : x ≡ a = cc in
      let right : y ≡ b = cc in
      and_from (f x y) true ((λ j. f (left j) (right j)) ∙ passes) refl
  at_next (x ∷ xs) (y ∷ ys) (suc i) a b before at_a at_b passes =
      let parts = and_parts (f x y) (pairs_all (take i xs) (take i ys)) before in
      and_from (f x y) (pairs_all (take (suc i) xs) (take (suc i) ys)) parts.0 (at_next xs ys i a b parts.1 at_a at_b passes)

  pub pairs_more : (xs : List A) (ys : List B) (i : ℕ) (a : A) (b : B) → pairs_all (take i xs) (take i ys) ≡ true → slice_get xs i ≡ Some a → slice_get ys i ≡ Some b → f a b ≡ true
      → pairs_all (take (i + 1) xs) (take (i + 1) ys) ≡ true
  pairs_more xs ys i a b before at_a at_b passes = rw add-one (at_next xs ys i a b before at_a at_b passes)

  pub pairs_whole : (xs : List A) (ys : List B) (i : ℕ) → length xs ≤ i → length ys ≤ i → pairs_all (take i xs) (take i ys) ≡ true → pairs_all xs ys ≡ true
  pairs_whole xs ys i past past_too before = ap (λ l. pairs_all l ys) (sym (take_all i xs past)) ∙ ap (pairs_all (take i xs)) (sym (take_all i ys past_too)) ∙ before
