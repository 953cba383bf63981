-- Names among others, and tests of names.
use Rattle.std.proofs.Common.{◌≡◌, ◌⊎◌, inl, inr, ℕ, suc, ◌+◌, ◌≤◌, List, [], ◌∷◌, ◌++◌, length, Bool, true, false, if◌then◌else◌, ◌||◌, refl, sym, ap, subst, ◌∙◌, true≢false, arith}
use Rattle.std.specs.Str.{bytes_eq}
use Rattle.std.proofs.lemmas.Slice.Eq.{bytes_eq-Decides}
use Rattle.gil_syntax.specs.Valid.{is_among}

pub one_of_two : (a b : Bool) → (a || b) ≡ true → (a ≡ true) ⊎ (b ≡ true)
one_of_two true b is = inl refl
one_of_two false b is = inr is

pub none_of_two : (a b : Bool) → (a || b) ≡ false → (a ≡ false) × (b ≡ false)
none_of_two true b is = absurd (true≢false is)
none_of_two false b is = (refl, is)

pub or_left : (a b : Bool) → a ≡ true → (a || b) ≡ true
or_left true b is = refl
or_left false b is = absurd (true≢false (sym is))

pub or_right : (a b : Bool) → b ≡ true → (a || b) ≡ true
or_right true b is = refl
or_right false b is = is

pub names_same : (x y : List ℕ) → bytes_eq x y ≡ true → x ≡ y
names_same x y is = (bytes_eq-Decides x y).0 is

pub same_name : (x : List ℕ) → bytes_eq x x ≡ true
same_name x = (bytes_eq-Decides x x).1 refl

pub turned : (x y : List ℕ) → bytes_eq x y ≡ false → bytes_eq y x ≡ false
turned x y differ = by (bytes_eq y x) refl
  where
    by : (b : Bool) → bytes_eq y x ≡ b → b ≡ false
    by true same = absurd (true≢false (sym (ap (λ z. bytes_eq x z) (names_same y x same) ∙ same_name x) ∙ differ))
    by false is = refl

pub among_left : (xs ys : List (List ℕ)) (y : List ℕ) → is_among xs y ≡ true → is_among (xs ++ ys) y ≡ true
among_left [] ys y is = absurd (true≢false (sym is))
among_left (x ∷ xs) ys y is = by (bytes_eq y x) is (among_left xs ys y)
  where
    by : (b : Bool) → (b || is_among xs y) ≡ true → (is_among xs y ≡ true → is_among (xs ++ ys) y ≡ true) → (b || is_among (xs ++ ys) y) ≡ true
    by true h later = refl
    by false h later = later h

pub among_right : (xs ys : List (List ℕ)) (y : List ℕ) → is_among ys y ≡ true → is_among (xs ++ ys) y ≡ true
among_right [] ys y is = is
among_right (x ∷ xs) ys y is = or_right (bytes_eq y x) (is_among (xs ++ ys) y) (among_right xs ys y is)

pub among_parts : (xs ys : List (List ℕ)) (y : List ℕ) → is_among (xs ++ ys) y ≡ (is_among xs y || is_among ys y)
among_parts [] ys y = refl
among_parts (x ∷ xs) ys y = by (bytes_eq y x) (among_parts xs ys y)
  where
    by : (b : Bool) → is_among (xs ++ ys) y ≡ (is_among xs y || is_among ys y) → (b || is_among (xs ++ ys) y) ≡ ((b || is_among xs y) || is_among ys y)
    by true later = refl
    by false later = later

-- the only name of a list of one
pub only_name : (x y : List ℕ) → is_among (x ∷ []) y ≡ true → y ≡ x
only_name x y is = by (bytes_eq y x) refl is
  where
    by : (b : Bool) → bytes_eq y x ≡ b → (b || false) ≡ true → y ≡ x
    by true same h = names_same y x same
    by false differ h = absurd (true≢false (sym h))

pub only_other : (x y : List ℕ) → is_among (x ∷ []) y ≡ false → bytes_eq x y ≡ false
only_other x y is = turned y x (none_of_two (bytes_eq y x) false is).0

pub is_only : (x : List ℕ) → is_among (x ∷ []) x ≡ true
is_only x = ap (λ b. b || false) (same_name x)

-- ---- names without one of them

abbrev pub without : List ℕ → List (List ℕ) → List (List ℕ)
without x [] = []
without x (z ∷ zs) = if bytes_eq x z then without x zs else z ∷ without x zs

no_longer : (x : List ℕ) (zs : List (List ℕ)) → length (without x zs) ≤ length zs
no_longer x [] = omega arith
no_longer x (z ∷ zs) = by (bytes_eq x z) (no_longer x zs)
  where
    by : (b : Bool) → length (without x zs) ≤ length zs → length (if b then without x zs else z ∷ without x zs) ≤ suc (length zs)
    by true less = omega (arith, less)
    by false less = omega (arith, less)

pub one_less : (x : List ℕ) (zs : List (List ℕ)) → is_among zs x ≡ true → length (without x zs) + 1 ≤ length zs
one_less x [] among = absurd (true≢false (sym among))
one_less x (z ∷ zs) among = by (bytes_eq x z) among (no_longer x zs) (one_less x zs)
  where
    by : (b : Bool) → (b || is_among zs x) ≡ true → length (without x zs) ≤ length zs → (is_among zs x ≡ true → length (without x zs) + 1 ≤ length zs)
        → length (if b then without x zs else z ∷ without x zs) + 1 ≤ suc (length zs)
    by true is less later = omega (arith, less)
    by false is less later = let rest = later is in omega (arith, rest)

pub others_among : (x y : List ℕ) (zs : List (List ℕ)) → bytes_eq x y ≡ false → is_among zs y ≡ true → is_among (without x zs) y ≡ true
others_among x y [] other among = absurd (true≢false (sym among))
others_among x y (z ∷ zs) other among = by (bytes_eq x z) refl (one_of_two (bytes_eq y z) (is_among zs y) among) (others_among x y zs other)
  where
    by : (b : Bool) → bytes_eq x z ≡ b → (bytes_eq y z ≡ true) ⊎ (is_among zs y ≡ true) → (is_among zs y ≡ true → is_among (without x zs) y ≡ true)
        → is_among (if b then without x zs else z ∷ without x zs) y ≡ true
    by true same (inl here) later = absurd (true≢false (sym same ∙ subst (λ w. bytes_eq x w ≡ false) (names_same y z here) other))
    by true same (inr there) later = later there
    by false differ (inl here) later = or_left (bytes_eq y z) (is_among (without x zs) y) here
    by false differ (inr there) later = or_right (bytes_eq y z) (is_among (without x zs) y) (later there)
