-- Pairs of elements of two lists, and what holds of one list by the other.
use Rattle.std.proofs.Common.{◌≡◌, inl, inr, ℕ, zero, suc, ◌-◌, ◌≤◌, List, [], ◌∷◌, ◌++◌, length, map, drop, Bool, true, false, cond, refl, sym, ap, subst, ◌∙◌, true≢false}
use Rattle.std.specs.Prelude.{nat_lt}
use Rattle.std.proofs.lemmas.Bool.{le-ltb}
use Rattle.std.proofs.lemmas.List.{length-map, drop-map}
use Rattle.sym_model.specs.Lists.{Each, OneOf}
use Rattle.checked_paths.specs.Meaning.{EachWith, kept_by}

module _ {A B : Type 0} (R : A → B → Type 0) where
  pub same_lengths : (xs : List A) (ys : List B) → EachWith R xs ys → length xs ≡ length ys
  same_lengths [] [] are = refl
  same_lengths (x ∷ xs) (y ∷ ys) are = ap suc (same_lengths xs ys are.1)
  same_lengths [] (y ∷ ys) are = absurd are
  same_lengths (x ∷ xs) [] are = absurd are

  -- the last pair apart
  pub record IsLastApart (xs : List A) (x : A) (zs : List B) : Type 0 where
    pub first : List B
    pub last : B
    pub are : zs ≡ first ++ last ∷ []
    pub related : EachWith R xs first
    pub last_related : R x last

  pub last_apart : (xs : List A) (x : A) (zs : List B) → EachWith R (xs ++ x ∷ []) zs → IsLastApart xs x zs
  last_apart [] x [] are = absurd are
  last_apart [] x (z ∷ []) are = record { first = []; last = z; are = refl; related = tt; last_related = are.0 }
  last_apart [] x (z ∷ y ∷ zs) are = absurd are.1
  last_apart (u ∷ xs) x [] are = absurd are
  last_apart (u ∷ xs) x (z ∷ zs) are =
      let later = last_apart xs x zs are.1 in
      record { first = z ∷ later.first; last = later.last; are = ap (λ ws. z ∷ ws) later.are; related = (are.0, later.related); last_related = later.last_related }

  pub with_last : (xs : List A) (x : A) (ys : List B) (y : B) → EachWith R xs ys → R x y → EachWith R (xs ++ x ∷ []) (ys ++ y ∷ [])
  with_last [] x [] y are last = (last, tt)
  with_last (u ∷ xs) x (z ∷ ys) y are last = (are.0, with_last xs x ys y are.1 last)
  with_last [] x (z ∷ ys) y are last = absurd are
  with_last (u ∷ xs) x [] y are last = absurd are

  pub drop_related : (n : ℕ) (xs : List A) (ys : List B) → EachWith R xs ys → EachWith R (drop n xs) (drop n ys)
  drop_related zero xs ys are = are
  drop_related (suc n) [] [] are = tt
  drop_related (suc n) (x ∷ xs) (y ∷ ys) are = drop_related n xs ys are.1
  drop_related (suc n) [] (y ∷ ys) are = absurd are
  drop_related (suc n) (x ∷ xs) [] are = absurd are

  pub one_across : (P : A → Type 0) (Q : B → Type 0) (xs : List A) (ys : List B) → EachWith R xs ys → ((x : A) (y : B) → R x y → P x → Q y) → OneOf P xs → OneOf Q ys
  one_across P Q [] ys are f one = absurd one
  one_across P Q (x ∷ xs) [] are f one = absurd are
  one_across P Q (x ∷ xs) (y ∷ ys) are f (inl here) = inl (f x y are.0 here)
  one_across P Q (x ∷ xs) (y ∷ ys) are f (inr later) = inr (one_across P Q xs ys are.1 f later)

  pub each_across : (P : A → Type 0) (Q : B → Type 0) (xs : List A) (ys : List B) → EachWith R xs ys → ((x : A) (y : B) → R x y → P x → Q y) → Each P xs → Each Q ys
  each_across P Q [] [] are f each = tt
  each_across P Q (x ∷ xs) (y ∷ ys) are f each = (f x y are.0 each.0, each_across P Q xs ys are.1 f each.1)
  each_across P Q [] (y ∷ ys) are f each = absurd are
  each_across P Q (x ∷ xs) [] are f each = absurd are

pub each_with_to : {A B : Type 0} (R T : A → B → Type 0) (xs : List A) (ys : List B) → ((x : A) (y : B) → R x y → T x y) → EachWith R xs ys → EachWith T xs ys
each_with_to R T [] [] f are = tt
each_with_to R T (x ∷ xs) (y ∷ ys) f are = (f x y are.0, each_with_to R T xs ys f are.1)
each_with_to R T [] (y ∷ ys) f are = absurd are
each_with_to R T (x ∷ xs) [] f are = absurd are

-- each related pair whose first element is good
pub each_with_if : {A B : Type 0} (P : A → Type 0) (R T : A → B → Type 0) (xs : List A) (ys : List B) → ((x : A) (y : B) → P x → R x y → T x y) → Each P xs → EachWith R xs ys → EachWith T xs ys
each_with_if P R T [] [] f each are = tt
each_with_if P R T (x ∷ xs) (y ∷ ys) f each are = (f x y each.0 are.0, each_with_if P R T xs ys f each.1 are.1)
each_with_if P R T [] (y ∷ ys) f each are = absurd are
each_with_if P R T (x ∷ xs) [] f each are = absurd are

-- where each related list of the one is one of the other, so it is with one element more
pub pushed_stand : {A B : Type 0} (R : A → B → Type 0) (xs ys : List A) (x y : A) → ((zs : List B) → EachWith R xs zs → EachWith R ys zs) → ((z : B) → R x z → R y z)
    → (zs : List B) → EachWith R (xs ++ x ∷ []) zs → EachWith R (ys ++ y ∷ []) zs
pushed_stand R xs ys x y before last zs are =
    let apart = last_apart R xs x zs are in
    subst (EachWith R (ys ++ y ∷ [])) (sym apart.are) (with_last R ys y apart.first apart.last (before apart.first apart.related) (last apart.last apart.last_related))

-- ---- what is kept of frames

kept_cases : {A B : Type 0} (R : List A → List B → Type 0) → R [] [] → (b : Bool) (k : ℕ) (ps : List (List A)) (rs : List (List B)) → EachWith R ps rs
    → EachWith R (cond b ([] ∷ ps) (drop k ps)) (cond b ([] ∷ rs) (drop k rs))
kept_cases R none true k ps rs are = (none, are)
kept_cases R none false k ps rs are = drop_related R k ps rs are

pub kept_related : {A B : Type 0} (R : List A → List B → Type 0) → R [] [] → (n : ℕ) (ps : List (List A)) (rs : List (List B)) → EachWith R ps rs
    → EachWith R (kept_by n ps) (kept_by n rs)
kept_related R none n ps rs are =
    subst (λ k. EachWith R (kept_by n ps) (cond (nat_lt k n) ([] ∷ rs) (drop (k - n) rs))) (same_lengths R ps rs are)
    (kept_cases R none (nat_lt (length ps) n) (length ps - n) ps rs are)

each_drop : {A : Type 0} (P : A → Type 0) (n : ℕ) (xs : List A) → Each P xs → Each P (drop n xs)
each_drop P zero xs each = each
each_drop P (suc n) [] each = tt
each_drop P (suc n) (x ∷ xs) each = each_drop P n xs each.1

pub kept_each : {A : Type 0} (P : List A → Type 0) → P [] → (n : ℕ) (xs : List (List A)) → Each P xs → Each P (kept_by n xs)
kept_each P none n xs each = by (nat_lt (length xs) n)
  where
    by : (b : Bool) → Each P (cond b ([] ∷ xs) (drop (length xs - n) xs))
    by true = (none, each)
    by false = each_drop P (length xs - n) xs each

-- with as many lists as frames, those of the later frames are forgotten
kept_by_else : {A : Type 0} (n : ℕ) (xs : List (List A)) (b : Bool) → b ≡ false → cond b ([] ∷ xs) (drop (length xs - n) xs) ≡ drop (length xs - n) xs
kept_by_else n xs false is = refl
kept_by_else n xs true is = absurd (true≢false is)

pub kept_later : {A B : Type 0} (f : A → List B) (n : ℕ) (xs : List A) → n ≤ length xs → map f (drop (length xs - n) xs) ≡ kept_by n (map f xs)
kept_later f n xs enough =
    let counted = length-map xs f in
    sym (drop-map f (length xs - n) xs) ∙ ap (λ k. drop (k - n) (map f xs)) (sym counted)
    ∙ sym (kept_by_else n (map f xs) (nat_lt (length (map f xs)) n) (le-ltb (length (map f xs)) n (subst (λ k. n ≤ k) (sym counted) enough)))
