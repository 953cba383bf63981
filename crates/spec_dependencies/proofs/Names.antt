-- Names of which a specification isn't sound.
use Rattle.std.proofs.Common.{◌≡◌, ℕ, zero, suc, List, [], ◌∷◌, Bool, true, false, not, ◌&&◌, ◌||◌, if◌then◌else◌, slice_get, Some, None, bytes_eq, refl, sym, ap, subst, ◌∙◌, true≢false}
use Rattle.std.proofs.lemmas.Slice.Eq.{bytes_eq-Decides}
use Rattle.gil_syntax.specs.Valid.{is_among}
use Rattle.spec_dependencies.specs.declared.entries.Entry.{Entry}
use Rattle.spec_dependencies.specs.Settling.{is_sound, is_unsound, first_unsound, unsound_use, IsIn}

-- an entry that isn't sound makes its name unsound
pub unsound_name : (es : List Entry) (f : Entry) (k : ℕ) → slice_get es k ≡ Some f → is_sound f.standing ≡ false → is_unsound es f.name ≡ true
unsound_name [] f k is isnt = cc
unsound_name (e ∷ es) f zero is isnt =
    let same : e ≡ f = cc in
    subst (λ (x : Entry). ((bytes_eq x.name f.name && not (is_sound x.standing)) || is_unsound es f.name) ≡ true) (sym same)
    (ap (λ b. (b && not (is_sound f.standing)) || is_unsound es f.name) ((bytes_eq-Decides f.name f.name).1 refl)
    ∙ ap (λ b. not b || is_unsound es f.name) isnt)
unsound_name (e ∷ es) f (suc k) is isnt = or_right (bytes_eq e.name f.name && not (is_sound e.standing)) (unsound_name es f k is isnt) where
  or_right : (b : Bool) {c : Bool} → c ≡ true → (b || c) ≡ true
  or_right true is = refl
  or_right false is = is

-- an entry of a name that isn't sound
pub record HasUnsound (es : List Entry) (g : List ℕ) : Type 0 where
  pub entry : Entry
  pub is_in : IsIn es entry
  pub named : entry.name ≡ g
  pub not_sound : is_sound entry.standing ≡ false

pub has_unsound : (es : List Entry) (g : List ℕ) → is_unsound es g ≡ true → HasUnsound es g
has_unsound [] g is = absurd (true≢false (sym is))
has_unsound (e ∷ es) g is = by (bytes_eq e.name g) refl (is_sound e.standing) refl is (λ there. later (has_unsound es g there)) where
  later : HasUnsound es g → HasUnsound (e ∷ es) g
  later found = record { entry = found.entry; is_in = (suc found.is_in.0, found.is_in.1); named = found.named; not_sound = found.not_sound }

  by : (b : Bool) → bytes_eq e.name g ≡ b → (c : Bool) → is_sound e.standing ≡ c → ((b && not c) || is_unsound es g) ≡ true → (is_unsound es g ≡ true → HasUnsound (e ∷ es) g)
      → HasUnsound (e ∷ es) g
  by true same false isnt is there = record { entry = e; is_in = (0, refl); named = (bytes_eq-Decides e.name g).0 same; not_sound = isnt }
  by true same true sound is there = there is
  by false other c known is there = there is

-- of names among which no unsound one was found none is
pub none_unsound : (es : List Entry) (xs : List (List ℕ)) (x : List ℕ) → first_unsound es xs ≡ None → is_among xs x ≡ true → is_unsound es x ≡ false
none_unsound es [] x none among = absurd (true≢false (sym among))
none_unsound es (y ∷ ys) x none among = by (is_unsound es y) refl none (none_unsound es ys x) where
  by_name : (b : Bool) → bytes_eq x y ≡ b → is_unsound es y ≡ false → first_unsound es ys ≡ None → (b || is_among ys x) ≡ true
      → (first_unsound es ys ≡ None → is_among ys x ≡ true → is_unsound es x ≡ false) → is_unsound es x ≡ false
  by_name true same sound none among later = ap (is_unsound es) ((bytes_eq-Decides x y).0 same) ∙ sound
  by_name false other sound none among later = later none among

  by : (b : Bool) → is_unsound es y ≡ b → (if b then Some y else first_unsound es ys) ≡ None
      → (first_unsound es ys ≡ None → is_among ys x ≡ true → is_unsound es x ≡ false) → is_unsound es x ≡ false
  by true is none later = cc
  by false is none later = by_name (bytes_eq x y) refl is none among later

-- the one that was found is among the names, and unsound
pub record IsFound (es : List Entry) (xs : List (List ℕ)) (g : List ℕ) : Type 0 where
  pub among : is_among xs g ≡ true
  pub unsound : is_unsound es g ≡ true

pub found_unsound : (es : List Entry) (xs : List (List ℕ)) (g : List ℕ) → first_unsound es xs ≡ Some g → IsFound es xs g
found_unsound es [] g is = cc
found_unsound es (y ∷ ys) g is = by (is_unsound es y) refl is (found_unsound es ys g) where
  or_right : (b : Bool) {c : Bool} → c ≡ true → (b || c) ≡ true
  or_right true is = refl
  or_right false is = is

  by : (b : Bool) → is_unsound es y ≡ b → (if b then Some y else first_unsound es ys) ≡ Some g → (first_unsound es ys ≡ Some g → IsFound es ys g) → IsFound es (y ∷ ys) g
  by true unsound is later =
      let same : y ≡ g = cc in
      record {
        among = ap (λ b. b || is_among ys g) ((bytes_eq-Decides g y).1 (sym same));
        unsound = ap (is_unsound es) (sym same) ∙ unsound;
      }
  by false sound is later = let found = later is in record { among = or_right (bytes_eq g y) found.among; unsound = found.unsound }

-- what an entry uses that isn't sound: the entry is sound itself
pub record UsesUnsound (es : List Entry) (e : Entry) (g : List ℕ) : Type 0 where
  pub sound : is_sound e.standing ≡ true
  pub found : IsFound es e.uses g

pub uses_unsound : (es : List Entry) (e : Entry) (g : List ℕ) → unsound_use es e ≡ Some g → UsesUnsound es e g
uses_unsound es e g is = by (is_sound e.standing) refl is where
  by : (b : Bool) → is_sound e.standing ≡ b → (if b then first_unsound es e.uses else None) ≡ Some g → UsesUnsound es e g
  by true sound is = record { sound = sound; found = found_unsound es e.uses g is }
  by false isnt is = cc

pub uses_none : (es : List Entry) (e : Entry) → unsound_use es e ≡ None → is_sound e.standing ≡ true → first_unsound es e.uses ≡ None
uses_none es e none sound = sym (ap (λ b. if b then first_unsound es e.uses else None) sound) ∙ none
