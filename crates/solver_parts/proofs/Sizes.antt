-- The size of an element of a list of terms, and one more of the first items of a list.
use Rattle.std.proofs.Common.{◌≡◌, ℕ, zero, suc, ◌+◌, ◌≤◌, List, [], ◌∷◌, ◌++◌, Some, slice_get, take, ap, add-one, arith}
use Rattle.std.proofs.lemmas.Option.{same_Some}
use Rattle.pure_terms.specs.Pure.{PureTerm, from_list, size, sizes}

pub size-element : (ts : List PureTerm) (i : ℕ) (t : PureTerm) → slice_get ts i ≡ Some t → size t ≤ sizes (from_list ts)
size-element [] i t is = cc
size-element (u ∷ ts) zero t is = let here : size u ≡ size t = (let e : u ≡ t = cc in ap size e) in omega (arith, here)
size-element (u ∷ ts) (suc i) t is = let rest : size t ≤ sizes (from_list ts) = size-element ts i t is in omega (arith, rest)

pub one_more : {X : Type 0} (xs : List X) (i : ℕ) (x : X) → slice_get xs i ≡ Some x → take (i + 1) xs ≡ take i xs ++ x ∷ []
one_more xs i x at = rw add-one (at_next xs i x at) where
  at_next : {X : Type 0} (xs : List X) (i : ℕ) (x : X) → slice_get xs i ≡ Some x → take (suc i) xs ≡ take i xs ++ x ∷ []
  at_next [] i x at = cc
  at_next (y ∷ ys) zero x at = ap (λ z. z ∷ []) (same_Some y x at)
  at_next (y ∷ ys) (suc i) x at = ap (λ zs. y ∷ zs) (at_next ys i x at)
