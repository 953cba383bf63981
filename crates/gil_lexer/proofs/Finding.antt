-- The first element of a list that passes a test.
use Rattle.std.proofs.Common.{◌≡◌, ℕ, ◌≤◌, ◌⊎◌, Bool, true, false, ◌&&◌, leb, List, [], ◌∷◌, Some, None, inl, inr, le_refl}
use Rattle.std.specs.List.{find, list_all}
use Rattle.std.proofs.lemmas.Bool.{cases_Bool, and_parts, leb-true}

pub find_passes : {X : Type 0} (p : X → Bool) (xs : List X) (x : X) → find p xs ≡ Some x → p x ≡ true
find_passes p [] x e = cc
find_passes p (y ∷ ys) x e =
    elim (cases_Bool (p y)) [
      | inl passes ↦ let first = rw passes at e in let same : y ≡ x = cc first in rw (← same) passes
      | inr fails ↦ let later = rw fails at e in find_passes p ys x later
    ]

-- x is an element of the list
abbrev pub Among : {X : Type 0} → List X → X → Type 0
Among [] x = ⊥
Among (y ∷ ys) x = (y ≡ x) ⊎ Among ys x

pub find_among : {X : Type 0} (p : X → Bool) (xs : List X) (x : X) → find p xs ≡ Some x → Among xs x
find_among p [] x e = absurd (cc e)
find_among p (y ∷ ys) x e =
    elim (cases_Bool (p y)) [
      | inl passes ↦ let first = rw passes at e in inl (cc first)
      | inr fails ↦ let later = rw fails at e in inr (find_among p ys x later)
    ]

-- where none is found, none passes
pub find_none : {X : Type 0} (p : X → Bool) (xs : List X) (x : X) → find p xs ≡ None → Among xs x → p x ≡ false
find_none p [] x e among = absurd among
find_none p (y ∷ ys) x e among =
    elim (cases_Bool (p y)) [
      | inl passes ↦ let first = rw passes at e in absurd (cc first)
      | inr fails ↦
          let later = rw fails at e in
          elim among [
            | inl same ↦ rw (← same) fails
            | inr behind ↦ find_none p ys x later behind
          ]
    ]

-- no element is larger than one before it
abbrev pub descending : {X : Type 0} → (X → ℕ) → List X → Bool
descending size [] = true
descending size (x ∷ xs) = list_all (λ y. leb (size y) (size x)) xs && descending size xs

among_all : {X : Type 0} (p : X → Bool) (xs : List X) (x : X) → list_all p xs ≡ true → Among xs x → p x ≡ true
among_all p [] x all among = absurd among
among_all p (y ∷ ys) x all among =
    let parts = and_parts _ _ all in
    elim among [
      | inl same ↦ rw (← same) parts.0
      | inr behind ↦ among_all p ys x parts.1 behind
    ]

-- the first that passes is the largest that passes, where no element is larger than one before it
pub find_largest : {X : Type 0} (size : X → ℕ) (p : X → Bool) (xs : List X) (x y : X) → descending size xs ≡ true → find p xs ≡ Some x → Among xs y → p y ≡ true → size y ≤ size x
find_largest size p [] x y order e among passes_y = absurd among
find_largest size p (z ∷ zs) x y order e among passes_y =
    let parts = and_parts (list_all (λ w. leb (size w) (size z)) zs) (descending size zs) order in
    elim (cases_Bool (p z)) [
      | inl passes ↦
          let first = rw passes at e in
          let same : z ≡ x = cc first in
          elim among [
            | inl is ↦ rw (← same, ← is) (le_refl (size z))
            | inr behind ↦ rw (← same) (leb-true _ _ (among_all (λ y. leb (size y) (size z)) zs y parts.0 behind))
          ]
      | inr fails ↦
          let later = rw fails at e in
          elim among [
            | inl is ↦ let other = rw (← is) at passes_y in absurd (cc (fails, other))
            | inr behind ↦ find_largest size p zs x y parts.1 later behind passes_y
          ]
    ]
