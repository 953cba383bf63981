-- Places of a list where one element is replaced.
use Rattle.std.proofs.Common.{◌≡◌, ◌⊎◌, inl, inr, ℕ, zero, suc, List, [], ◌∷◌, set, slice_get, Some, refl, ap}

pub set_here : {A : Type 0} (xs : List A) (k : ℕ) (old new : A) → slice_get xs k ≡ Some old → slice_get (set xs k new) k ≡ Some new
set_here [] k old new is = cc
set_here (x ∷ xs) zero old new is = refl
set_here (x ∷ xs) (suc k) old new is = set_here xs k old new is

-- at each other place there is what was
pub set_there : {A : Type 0} (xs : List A) (k j : ℕ) (new : A) → (j ≡ k) ⊎ (slice_get (set xs k new) j ≡ slice_get xs j)
set_there [] k j new = inr refl
set_there (x ∷ xs) zero zero new = inl refl
set_there (x ∷ xs) zero (suc j) new = inr refl
set_there (x ∷ xs) (suc k) zero new = inr refl
set_there (x ∷ xs) (suc k) (suc j) new = elim (set_there xs k j new) [ inl same ↦ inl (ap suc same) | inr stays ↦ inr stays ]
