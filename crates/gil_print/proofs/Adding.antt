-- The elements of a list, whose texts are added one after another.
use Rattle.std.proofs.Common.{◌≡◌, ℕ, zero, suc, ◌+◌, ◌<◌, List, [], ◌∷◌, ◌++◌, length, take, Some, slice_get, refl, sym, append_assoc, append-nil, add-one, arith}
use Rattle.std.specs.List.{flat_map}

module _ {X : Type 0} where
  pub flat_map-take : (f : X → List ℕ) (xs : List X) (k : ℕ) (x : X) → slice_get xs k ≡ Some x → flat_map f (take (suc k) xs) ≡ flat_map f (take k xs) ++ f x
  flat_map-take f [] k x e = cc
  flat_map-take f (y ∷ xs) zero x e = let same : y ≡ x = cc in rw (same, append-nil (f x)) refl
  flat_map-take f (y ∷ xs) (suc k) x e = rw (flat_map-take f xs k x e) (sym (append_assoc (f y) (flat_map f (take k xs)) (f x)))

  pub one_there : (xs : List X) (k : ℕ) → k < length xs → (x : X) × (slice_get xs k ≡ Some x)
  one_there [] k below = absurd (omega arith)
  one_there (x ∷ xs) zero below = (x, refl)
  one_there (x ∷ xs) (suc k) below = one_there xs k (omega arith)

  -- the text with one element more
  pub one_added : (f : X → List ℕ) (xs : List X) (k : ℕ) (start before all : List ℕ) → k < length xs → before ≡ start ++ flat_map f (take k xs)
      → ((x : X) → slice_get xs k ≡ Some x → all ≡ before ++ f x) → all ≡ start ++ flat_map f (take (k + 1) xs)
  one_added f xs k start before all below so_far adds =
      let found = one_there xs k below in
      rw (adds found.0 found.1, so_far, add-one, flat_map-take f xs k found.0 found.1) (append_assoc start (flat_map f (take k xs)) (f found.0))
