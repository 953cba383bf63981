-- What a store keeps when slots are set and added.
use Rattle.std.proofs.Common.{◌≡◌, ◌⊎◌, inl, inr, ℕ, ◌<◌, List, [], ◌∷◌, ◌++◌, length, get_or, set, eqb, Bool, true, false, cond, map, Option, Some, None, refl, sym, ap, subst, ◌∙◌, arith, Bor}
use Rattle.std.specs.Option.{option_map, option_copied}
use Rattle.std.proofs.lemmas.Bool.{cases_order}
use Rattle.std.proofs.lemmas.Bool.Decides.{eqb_tells}
use Rattle.std.proofs.lemmas.List.{get_or-set_same, get_or-set_other, get_or_append_left, get_or_past, length-append, length-map, map-set, map-append}
use Rattle.std.proofs.Math.Seq.{get_or-append_seam}
use Rattle.gil_values.specs.declared.tree.Value.{Value}
use Rattle.gil_values.specs.Pure.{PureValue}
use Rattle.gil_values.specs.View.{value_view}
use Rattle.gil_machine.specs.Kept.{Kept, kept_value}

-- values as they are kept
abbrev pub seen : List (Option Value) → Kept
seen vs = map (option_map value_view) vs

-- whether two numbers are equal, and what the test says
abbrev pub Tells : ℕ → ℕ → Type 0
Tells i j = ((eqb i j ≡ true) × (i ≡ j)) ⊎ ((eqb i j ≡ false) × (i ≡ j → ⊥))

-- the element at a place of a list that was made longer
pub longer_at : {X : Type 0} (xs : List X) (x d : X) (i : ℕ) → get_or (xs ++ x ∷ []) i d ≡ (cond (eqb (length xs) i) x (get_or xs i d))
longer_at {X} xs x d i = by (cases_order (length xs) i) (eqb_tells (length xs) i)
  where
    chosen : (b : Bool) (y : X) → eqb (length xs) i ≡ b → y ≡ cond b x (get_or xs i d) → y ≡ cond (eqb (length xs) i) x (get_or xs i d)
    chosen b y is same = same ∙ ap (λ c. cond c x (get_or xs i d)) (sym is)

    by : (length xs ≡ i) ⊎ ((length xs < i) ⊎ (i < length xs)) → Tells (length xs) i → get_or (xs ++ x ∷ []) i d ≡ cond (eqb (length xs) i) x (get_or xs i d)
    by (inl same) (inl tells) = chosen true _ tells.0 (subst (λ k. get_or (xs ++ x ∷ []) k d ≡ x) same (get_or-append_seam xs x [] d))
    by (inl same) (inr tells) = absurd (tells.1 same)
    by (inr (inl past)) (inl tells) = let e : length xs ≡ i = tells.1 in absurd (omega (arith, past, e))
    by (inr (inl past)) (inr tells) = chosen false _ tells.0 (get_or_past (xs ++ x ∷ []) i d (let long = length-append xs (x ∷ []) in omega (arith, past, long)) ∙ sym (get_or_past xs i d (omega (arith, past))))
    by (inr (inr below)) (inl tells) = let e : length xs ≡ i = tells.1 in absurd (omega (arith, below, e))
    by (inr (inr below)) (inr tells) = chosen false _ tells.0 (get_or_append_left xs (x ∷ []) d i below)

kept-set_by : (os : Kept) (i j : ℕ) (w : PureValue) → i < length os → Tells i j → kept_value (set os i (Some w)) j ≡ cond (eqb i j) (Some w) (kept_value os j)
kept-set_by os i j w below (inl tells) =
    subst (λ k. get_or (set os i (Some w)) k None ≡ Some w) tells.1 (get_or-set_same os i (Some w) None below) ∙ ap (λ b. cond b (Some w) (kept_value os j)) (sym tells.0)
kept-set_by os i j w below (inr tells) =
    get_or-set_other os i j (Some w) None (λ e. tells.1 (sym e)) ∙ ap (λ b. cond b (Some w) (kept_value os j)) (sym tells.0)

-- a slot that there is gets a value
pub kept-set : (vs : List (Option Value)) (i : ℕ) (v : Value) → i < length vs → (j : ℕ) → kept_value (seen (set vs i (Some v))) j ≡ cond (eqb i j) (Some (value_view v)) (kept_value (seen vs) j)
kept-set vs i v below j =
    let long = length-map vs (option_map value_view) in
    ap (λ os. kept_value os j) (map-set (option_map value_view) vs i (Some v)) ∙ kept-set_by (seen vs) i j (value_view v) (omega (arith, below, long)) (eqb_tells i j)

-- a slot with a value is added
pub kept-push : (vs : List (Option Value)) (v : Value) (j : ℕ) → kept_value (seen (vs ++ Some v ∷ [])) j ≡ cond (eqb (length vs) j) (Some (value_view v)) (kept_value (seen vs) j)
kept-push vs v j =
    ap (λ os. kept_value os j) (map-append (option_map value_view) vs (Some v ∷ []))
    ∙ longer_at (seen vs) (Some (value_view v)) None j
    ∙ ap (λ n. cond (eqb n j) (Some (value_view v)) (kept_value (seen vs) j)) (length-map vs (option_map value_view))

none-chosen : (os : Kept) (i j : ℕ) → i ≡ length os → cond (eqb i j) None (kept_value os j) ≡ kept_value os j
none-chosen os i j long = by (eqb_tells i j) where
  by : Tells i j → cond (eqb i j) None (kept_value os j) ≡ kept_value os j
  by (inl tells) =
      let e : i ≡ j = tells.1 in
      ap (λ b. cond b None (kept_value os j)) tells.0 ∙ sym (get_or_past os j None (omega (arith, e, long)))
  by (inr tells) = ap (λ b. cond b None (kept_value os j)) tells.0

-- a slot without a value is added
pub kept-lengthen : (vs : List (Option Value)) (j : ℕ) → kept_value (seen (vs ++ None ∷ [])) j ≡ kept_value (seen vs) j
kept-lengthen vs j =
    ap (λ os. kept_value os j) (map-append (option_map value_view) vs (None ∷ []))
    ∙ longer_at (seen vs) None None j
    ∙ none-chosen (seen vs) (length (seen vs)) j refl

-- what is found, behind a reference
pub seen_found : (o : Option (Bor Value)) → option_map (λ v. value_view v.now) o ≡ option_map value_view (option_copied o)
seen_found (Some v) = refl
seen_found None = refl
