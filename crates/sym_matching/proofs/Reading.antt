-- Lists that code goes over, and their views: the elements so far, and one more.
use Rattle.std.proofs.Common.{◌≡◌, ℕ, zero, suc, ◌+◌, ◌<◌, List, [], ◌∷◌, ◌++◌, map, take, get_or, length, Some, slice_get, refl, sym, ap, subst, ◌∙◌, add-one, arith}
use Rattle.std.proofs.lemmas.List.{length-map, take_more}
use Rattle.gil_values.proofs.Lists.{slice_get-read}
use Rattle.sym_model.proofs.ListLaws.{same_some, not_none}

taken_suc : {X : Type 0} (xs : List X) (i : ℕ) (x : X) → slice_get xs i ≡ Some x → take (suc i) xs ≡ take i xs ++ x ∷ []
taken_suc [] i x is = not_none is
taken_suc (y ∷ xs) zero x is = ap (λ z. z ∷ []) (same_some is)
taken_suc (y ∷ xs) (suc i) x is = ap (λ zs. y ∷ zs) (taken_suc xs i x is)

pub taken_at : {X : Type 0} (xs : List X) (i : ℕ) (x : X) → slice_get xs i ≡ Some x → take (i + 1) xs ≡ take i xs ++ x ∷ []
taken_at xs i x is = ap (λ n. take n xs) (add-one i) ∙ taken_suc xs i x is

pub taken_one : {X : Type 0} (xs : List X) (i : ℕ) (x : X) → i < length xs → x ≡ get_or xs i x → take (i + 1) xs ≡ take i xs ++ x ∷ []
taken_one xs i x below is = take_more xs i x below ∙ ap (λ y. take i xs ++ y ∷ []) (sym is)

-- a list is seen as another one
module _ {X A : Type 0} (g : X → A) (xs : List X) (ys : List A) (seen : map g xs ≡ ys) where
  pub seen_length : length xs ≡ length ys
  seen_length = sym (length-map xs g) ∙ ap length seen

  module _ (i : ℕ) (x : X) (below : i < length xs) (is : x ≡ get_or xs i x) where
    pub seen_at : slice_get ys i ≡ Some (g x)
    seen_at = subst (λ zs. slice_get zs i ≡ Some (g x)) seen (slice_get-read g xs i x below is)

    pub seen_next : take (i + 1) ys ≡ take i ys ++ g x ∷ []
    seen_next = taken_at ys i (g x) seen_at

-- another list of that length is seen beside it
pub below_other : {X Y A B : Type 0} (g : X → A) (h : Y → B) (xs : List X) (ys : List Y) (as_seen : List A) (bs_seen : List B) (i : ℕ) → map g xs ≡ as_seen → map h ys ≡ bs_seen → length as_seen ≡ length bs_seen → i < length xs
    → i < length ys
below_other g h xs ys first second i seen other same below = subst (λ n. i < n) (seen_length g xs first seen ∙ same ∙ sym (seen_length h ys second other)) below

pub taken_lengths : {A B : Type 0} (xs : List A) (ys : List B) (i : ℕ) → length xs ≡ length ys → length (take i xs) ≡ length (take i ys)
taken_lengths [] [] zero same = refl
taken_lengths [] [] (suc i) same = refl
taken_lengths [] (y ∷ ys) i same = absurd (omega (arith, same))
taken_lengths (x ∷ xs) [] i same = absurd (omega (arith, same))
taken_lengths (x ∷ xs) (y ∷ ys) zero same = refl
taken_lengths (x ∷ xs) (y ∷ ys) (suc i) same = ap suc (taken_lengths xs ys i (omega (arith, same)))
