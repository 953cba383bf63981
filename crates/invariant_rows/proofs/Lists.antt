-- Lists that are compared element by element.
use Rattle.std.proofs.Common.{◌≡◌, ℕ, zero, suc, ◌+◌, ◌≤◌, List, [], ◌∷◌, ◌++◌, length, take, Some, slice_get, sym, ap, ◌∙◌, add-one}
use Rattle.std.proofs.lemmas.List.{take_all}
use Rattle.sym_model.proofs.ListLaws.{same_some}
use Rattle.invariant_rows.specs.Remainders.{AreSameAt}

-- one more of the first elements
take_at : {X : Type 0} (xs : List X) (i : ℕ) (x : X) → slice_get xs i ≡ Some x → take (i + 1) xs ≡ take i xs ++ x ∷ []
take_at xs i x at = rw add-one (at_next xs i x at) where
  at_next : {X : Type 0} (xs : List X) (i : ℕ) (x : X) → slice_get xs i ≡ Some x → take (suc i) xs ≡ take i xs ++ x ∷ []
  at_next [] i x at = cc
  at_next (y ∷ ys) zero x at = ap (λ z. z ∷ []) (same_some at)
  at_next (y ∷ ys) (suc i) x at = ap (λ zs. y ∷ zs) (at_next ys i x at)

pub take_same : {X : Type 0} (xs ys : List X) (i : ℕ) → take i xs ≡ take i ys → AreSameAt xs ys i → take (i + 1) xs ≡ take (i + 1) ys
take_same xs ys i same (x, (left, right)) = take_at xs i x left ∙ ap (λ zs. zs ++ x ∷ []) same ∙ sym (take_at ys i x right)

pub all_same : {X : Type 0} (xs ys : List X) (i : ℕ) → length xs ≤ i → length ys ≤ i → take i xs ≡ take i ys → xs ≡ ys
all_same xs ys i past past_too same = sym (take_all i xs past) ∙ same ∙ take_all i ys past_too
