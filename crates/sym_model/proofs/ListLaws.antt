-- What holds of each element of a list, or of one of them, as lists are joined, mapped and read by place.
use Rattle.std.proofs.Common.{◌≡◌, ◌⊎◌, ⊎_elim, inl, inr, ℕ, zero, suc, List, [], ◌∷◌, ◌++◌, map, Bool, true, false, if◌then◌else◌, Some, None, is_some, slice_get, refl, sym, ap, subst, true≢false}
use Rattle.std.specs.List.{flat_map}
use Rattle.sym_model.specs.Lists.{Each, OneOf, IsAmong}

pub same_some : {X : Type 0} {x y : X} → Some x ≡ Some y → x ≡ y
same_some e = cc

pub not_none : {X Y : Type 0} {x : X} → None ≡ Some x → Y
not_none e = absurd (true≢false (sym (ap is_some e)))

module _ {A : Type 0} where
  pub each_append : (P : A → Type 0) (xs ys : List A) → Each P xs → Each P ys → Each P (xs ++ ys)
  each_append P [] ys first second = second
  each_append P (x ∷ xs) ys first second = (first.0, each_append P xs ys first.1 second)

  pub each_left : (P : A → Type 0) (xs ys : List A) → Each P (xs ++ ys) → Each P xs
  each_left P [] ys all = tt
  each_left P (x ∷ xs) ys all = (all.0, each_left P xs ys all.1)

  pub each_right : (P : A → Type 0) (xs ys : List A) → Each P (xs ++ ys) → Each P ys
  each_right P [] ys all = all
  each_right P (x ∷ xs) ys all = each_right P xs ys all.1

  pub each_to : (P Q : A → Type 0) (xs : List A) → ((x : A) → P x → Q x) → Each P xs → Each Q xs
  each_to P Q [] f all = tt
  each_to P Q (x ∷ xs) f all = (f x all.0, each_to P Q xs f all.1)

  pub one_left : (P : A → Type 0) (xs ys : List A) → OneOf P xs → OneOf P (xs ++ ys)
  one_left P [] ys one = absurd one
  one_left P (x ∷ xs) ys one = ⊎_elim inl (λ later. inr (one_left P xs ys later)) one

  pub one_right : (P : A → Type 0) (xs ys : List A) → OneOf P ys → OneOf P (xs ++ ys)
  one_right P [] ys one = one
  one_right P (x ∷ xs) ys one = inr (one_right P xs ys one)

  pub one_parts : (P : A → Type 0) (xs ys : List A) → OneOf P (xs ++ ys) → OneOf P xs ⊎ OneOf P ys
  one_parts P [] ys one = inr one
  one_parts P (x ∷ xs) ys one = ⊎_elim (λ here. inl (inl here)) (λ later. ⊎_elim (λ left. inl (inr left)) inr (one_parts P xs ys later)) one

  pub one_to : (P Q : A → Type 0) (xs : List A) → ((x : A) → P x → Q x) → OneOf P xs → OneOf Q xs
  one_to P Q [] f one = absurd one
  one_to P Q (x ∷ xs) f one = ⊎_elim (λ here. inl (f x here)) (λ later. inr (one_to P Q xs f later)) one

  -- one of the elements, of which each has a property
  pub one_with : {C : Type 0} (P Q : A → Type 0) (xs : List A) → Each P xs → OneOf Q xs → ((x : A) → P x → Q x → C) → C
  one_with P Q [] all one f = absurd one
  one_with P Q (x ∷ xs) all one f = ⊎_elim (λ here. f x all.0 here) (λ later. one_with P Q xs all.1 later f) one

  pub each_if : (P : A → Type 0) (b : Bool) (xs : List A) → Each P xs → Each P (if b then xs else [])
  each_if P true xs all = all
  each_if P false xs all = tt

  pub each_by_place : (P : A → Type 0) (xs : List A) → ((i : ℕ) (x : A) → slice_get xs i ≡ Some x → P x) → Each P xs
  each_by_place P [] f = tt
  each_by_place P (x ∷ xs) f = (f 0 x refl, each_by_place P xs (λ i y at. f (suc i) y at))

  pub each_at : (P : A → Type 0) (xs : List A) (i : ℕ) (x : A) → Each P xs → slice_get xs i ≡ Some x → P x
  each_at P [] i x all at = not_none at
  each_at P (y ∷ xs) zero x all at = subst P (same_some at) all.0
  each_at P (y ∷ xs) (suc i) x all at = each_at P xs i x all.1 at

  pub one_at : (P : A → Type 0) (xs : List A) (i : ℕ) (x : A) → slice_get xs i ≡ Some x → P x → OneOf P xs
  one_at P [] i x at holds = not_none at
  one_at P (y ∷ xs) zero x at holds = inl (subst P (sym (same_some at)) holds)
  one_at P (y ∷ xs) (suc i) x at holds = inr (one_at P xs i x at holds)

module _ {A B : Type 0} where
  pub each_map : (P : B → Type 0) (f : A → B) (xs : List A) → Each (λ x. P (f x)) xs → Each P (map f xs)
  each_map P f [] all = tt
  each_map P f (x ∷ xs) all = (all.0, each_map P f xs all.1)

  pub each_mapped : (P : B → Type 0) (f : A → B) (xs : List A) → Each P (map f xs) → Each (λ x. P (f x)) xs
  each_mapped P f [] all = tt
  each_mapped P f (x ∷ xs) all = (all.0, each_mapped P f xs all.1)

  pub one_map : (P : B → Type 0) (f : A → B) (xs : List A) → OneOf (λ x. P (f x)) xs → OneOf P (map f xs)
  one_map P f [] one = absurd one
  one_map P f (x ∷ xs) one = ⊎_elim inl (λ later. inr (one_map P f xs later)) one

  pub one_mapped : (P : B → Type 0) (f : A → B) (xs : List A) → OneOf P (map f xs) → OneOf (λ x. P (f x)) xs
  one_mapped P f [] one = absurd one
  one_mapped P f (x ∷ xs) one = ⊎_elim inl (λ later. inr (one_mapped P f xs later)) one

  pub each_flat : (P : B → Type 0) (f : A → List B) (xs : List A) → Each (λ x. Each P (f x)) xs → Each P (flat_map f xs)
  each_flat P f [] all = tt
  each_flat P f (x ∷ xs) all = each_append P (f x) (flat_map f xs) all.0 (each_flat P f xs all.1)

  pub each_flattened : (P : B → Type 0) (f : A → List B) (xs : List A) → Each P (flat_map f xs) → Each (λ x. Each P (f x)) xs
  each_flattened P f [] all = tt
  each_flattened P f (x ∷ xs) all = (each_left P (f x) (flat_map f xs) all, each_flattened P f xs (each_right P (f x) (flat_map f xs) all))

  pub one_flat : (P : B → Type 0) (f : A → List B) (xs : List A) → OneOf (λ x. OneOf P (f x)) xs → OneOf P (flat_map f xs)
  one_flat P f [] one = absurd one
  one_flat P f (x ∷ xs) one = ⊎_elim (one_left P (f x) (flat_map f xs)) (λ later. one_right P (f x) (flat_map f xs) (one_flat P f xs later)) one

  pub one_flattened : (P : B → Type 0) (f : A → List B) (xs : List A) → OneOf P (flat_map f xs) → OneOf (λ x. OneOf P (f x)) xs
  one_flattened P f [] one = absurd one
  one_flattened P f (x ∷ xs) one = ⊎_elim inl (λ later. inr (one_flattened P f xs later)) (one_parts P (f x) (flat_map f xs) one)

-- each element is one of the list
pub each_is_among : {A : Type 0} (xs : List A) → Each (λ x. IsAmong x xs) xs
each_is_among xs = each_by_place (λ x. IsAmong x xs) xs (λ i x at. one_at (λ y. y ≡ x) xs i x at refl)
