-- Tables of slots that grow.
use Rattle.std.proofs.Common.{◌≡◌, ◌⊎◌, inl, inr, ℕ, zero, suc, ◌+◌, ◌<◌, ◌≤◌, List, [], ◌∷◌, ◌++◌, length, eqb, cond, Bool, true, false, Option, Some, None, refl, sym, ap, subst, ◌∙◌, arith, Bor}
use Rattle.std.specs.Option.{option_map, option_or}
use Rattle.std.specs.Str.{bytes_eq}
use Rattle.std.proofs.lemmas.Bool.{cases_order, cases_lt}
use Rattle.std.proofs.lemmas.Bool.Decides.{eqb_tells}
use Rattle.std.proofs.lemmas.List.{get_or_append_left, get_or_past, length-append}
use Rattle.std.proofs.lemmas.Slice.Eq.{bytes_eq-Decides}
use Rattle.gil_values.specs.Characters.{IsTextCharacter, IsText}
use Rattle.gil_syntax.specs.Names.{first_place}
use Rattle.gil_syntax.proofs.NameLemmas.{bytes_eq-sym, bytes_eq-refl, first_place-push}
use Rattle.gil_machine.specs.SlotNames.{Names, IsTable, Grows, name_at}
use Rattle.gil_machine.proofs.KeptValues.{Tells, longer_at}

-- a name as a key
abbrev pub key_of : List ℕ → Bor (List ℕ)
key_of x = record { ref_ptr = (0, 0); now = x }

pub grows-refl : (names : Names) → Grows names names
grows-refl names = record { longer = omega arith; same = λ i below. refl }

pub grows-then : (xs ys zs : Names) → Grows xs ys → Grows ys zs → Grows xs zs
grows-then xs ys zs h k = record {
  longer = let a = h.longer in let b = k.longer in omega (arith, a, b);
  same = λ i below. k.same i (let a = h.longer in omega (arith, a, below)) ∙ h.same i below;
}

pub grows-push : (names : Names) (x : List ℕ) → Grows names (names ++ x ∷ [])
grows-push names x = record {
  longer = let long = length-append names (x ∷ []) in omega (arith, long);
  same = λ i below. get_or_append_left names (x ∷ []) (0 ∷ []) i below;
}

no_place : (o : Option ℕ) → option_map suc o ≡ None → o ≡ None
no_place None is = refl
no_place (Some n) is = cc

absent_by : (ys : Names) (x y : List ℕ) (b : Bool) → bytes_eq x y ≡ b → cond b (Some 0) (option_map suc (first_place ys x)) ≡ None
    → (first_place ys x ≡ None → (i : ℕ) → i < length ys → bytes_eq x (name_at ys i) ≡ false)
    → (i : ℕ) → i < length (y ∷ ys) → bytes_eq x (name_at (y ∷ ys) i) ≡ false
absent_by ys x y true is none rest i below = cc
absent_by ys x y false is none rest zero below = is
absent_by ys x y false is none rest (suc i) below = rest (no_place (first_place ys x) none) i (omega (arith, below))

-- a name that has no place is none of the names
absent : (names : Names) (x : List ℕ) → first_place names x ≡ None → (i : ℕ) → i < length names → bytes_eq x (name_at names i) ≡ false
absent [] x none i below = absurd (omega (arith, below))
absent (y ∷ ys) x none i below = absent_by ys x y (bytes_eq x y) refl none (absent ys x) i below

abbrev pub StandsAt : Names → List ℕ → ℕ → Type 0
StandsAt names x i = (i < length names) × (name_at names i ≡ x)

place_found_by : (ys : Names) (x y : List ℕ) (b : Bool) (i : ℕ) (o : Option ℕ) → bytes_eq x y ≡ b → first_place ys x ≡ o → cond b (Some 0) (option_map suc (first_place ys x)) ≡ Some i
    → ((j : ℕ) → first_place ys x ≡ Some j → StandsAt ys x j) → StandsAt (y ∷ ys) x i
place_found_by ys x y true i o e p is rest =
    let same : x ≡ y = (bytes_eq-Decides x y).0 e in
    let here : 0 ≡ i = cc in
    subst (StandsAt (y ∷ ys) x) here (omega arith, sym same)
place_found_by ys x y false i None e p is rest = let no : None ≡ Some i = sym (ap (option_map suc) p) ∙ is in cc
place_found_by ys x y false i (Some j) e p is rest =
    let (below, same) = rest j p in
    let next : Some (suc j) ≡ Some i = sym (ap (option_map suc) p) ∙ is in
    let here : suc j ≡ i = cc in
    subst (StandsAt (y ∷ ys) x) here (omega (arith, below), same)

-- a name that has a place stands there
pub place_found : (names : Names) (x : List ℕ) (i : ℕ) → first_place names x ≡ Some i → StandsAt names x i
place_found [] x i is = cc
place_found (y ∷ ys) x i is = place_found_by ys x y (bytes_eq x y) i (first_place ys x) refl refl is (place_found ys x)

no_character : IsTextCharacter 0 → ⊥
no_character (inl between) = let low = between.0 in absurd (omega (arith, low))
no_character (inr line) = absurd (omega (arith, line))

-- no text is the name past the last slot
text_is_none : (x : List ℕ) → IsText x → bytes_eq x (0 ∷ []) ≡ false
text_is_none x text = by (bytes_eq x (0 ∷ [])) refl where
  by : (b : Bool) → bytes_eq x (0 ∷ []) ≡ b → b ≡ false
  by false e = refl
  by true e =
      let same : x ≡ 0 ∷ [] = (bytes_eq-Decides x (0 ∷ [])).0 e in
      absurd (no_character (subst IsText same text 0 0 (omega arith)))

eqb-other : (i j : ℕ) → (i ≡ j → ⊥) → eqb i j ≡ false
eqb-other i j other = by (eqb_tells i j) where
  by : Tells i j → eqb i j ≡ false
  by (inl tells) = absurd (other tells.1)
  by (inr tells) = tells.0

eqb-same : (i j : ℕ) → i ≡ j → eqb i j ≡ true
eqb-same i j same = by (eqb_tells i j) where
  by : Tells i j → eqb i j ≡ true
  by (inl tells) = tells.0
  by (inr tells) = absurd (tells.1 same)

-- a new name is no other slot's
apart : (names : Names) (x : List ℕ) (j : ℕ) → first_place names x ≡ None → IsText x → bytes_eq x (name_at names j) ≡ false
apart names x j none text = by (cases_lt j (length names)) where
  by : (j < length names) ⊎ (length names ≤ j) → bytes_eq x (name_at names j) ≡ false
  by (inl below) = absent names x none j below
  by (inr past) = ap (bytes_eq x) (get_or_past names j (0 ∷ []) past) ∙ text_is_none x text

within : (names : Names) (x : List ℕ) (i : ℕ) → i < length (names ++ x ∷ []) → (length names ≡ i → ⊥) → i < length names
within names x i below other = by (cases_order (length names) i) (length-append names (x ∷ [])) where
  by : (length names ≡ i) ⊎ ((length names < i) ⊎ (i < length names)) → length (names ++ x ∷ []) ≡ length names + 1 → i < length names
  by (inl same) long = absurd (other same)
  by (inr (inl past)) long = absurd (omega (arith, past, below, long))
  by (inr (inr short)) long = short

pub table-push : (names : Names) (x : List ℕ) → IsTable names → first_place names x ≡ None → IsText x → IsTable (names ++ x ∷ [])
table-push names x table none text i j below =
    (λ k. bytes_eq (longer_at names x (0 ∷ []) i k) (longer_at names x (0 ∷ []) j k)) ∙ by (eqb_tells (length names) i) (eqb_tells (length names) j)
  where
    name_of : Bool → ℕ → List ℕ
    name_of b k = cond b x (name_at names k)

    by : Tells (length names) i → Tells (length names) j → bytes_eq (name_of (eqb (length names) i) i) (name_of (eqb (length names) j) j) ≡ eqb i j
    by (inl here) (inl there) =
        (λ k. bytes_eq (name_of (here.0 k) i) (name_of (there.0 k) j)) ∙ bytes_eq-refl x ∙ sym (eqb-same i j (sym here.1 ∙ there.1))
    by (inl here) (inr there) =
        (λ k. bytes_eq (name_of (here.0 k) i) (name_of (there.0 k) j)) ∙ apart names x j none text ∙ sym (eqb-other i j (λ e. there.1 (here.1 ∙ e)))
    by (inr here) (inl there) =
        (λ k. bytes_eq (name_of (here.0 k) i) (name_of (there.0 k) j)) ∙ bytes_eq-sym (name_at names i) x ∙ apart names x i none text ∙ sym (eqb-other i j (λ e. here.1 (there.1 ∙ sym e)))
    by (inr here) (inr there) =
        (λ k. bytes_eq (name_of (here.0 k) i) (name_of (there.0 k) j)) ∙ table i j (within names x i below here.1)

option_or-none : (o : Option ℕ) → o ≡ option_or o None
option_or-none None = refl
option_or-none (Some n) = refl

pub places-push : (names : Names) (x y : List ℕ) → first_place names x ≡ None → cond (bytes_eq x y) (Some (length names)) (first_place names y) ≡ first_place (names ++ x ∷ []) y
places-push names x y none = by (bytes_eq x y) refl ∙ sym (first_place-push names x y) where
  by : (b : Bool) → bytes_eq x y ≡ b → cond b (Some (length names)) (first_place names y) ≡ option_or (first_place names y) (cond (bytes_eq y x) (Some (length names)) None)
  by true e =
      let same : x ≡ y = (bytes_eq-Decides x y).0 e in
      let no : first_place names y ≡ None = ap (first_place names) (sym same) ∙ none in
      ap (λ c. cond c (Some (length names)) None) (sym e ∙ bytes_eq-sym x y) ∙ ap (λ o. option_or o (cond (bytes_eq y x) (Some (length names)) None)) (sym no)
  by false e = option_or-none (first_place names y) ∙ ap (λ c. option_or (first_place names y) (cond c (Some (length names)) None)) (sym e ∙ bytes_eq-sym x y)
