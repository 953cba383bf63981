-- The values that an unfolding gives to names are below the counter.
use Rattle.std.proofs.Common.{◌≡◌, ℕ, zero, suc, ◌<◌, ◌≤◌, List, [], ◌∷◌, length, Bool, true, false, cond, Option, Some, None, slice_get, refl, sym, ap, subst, ◌∙◌, true≢false, arith}
use Rattle.std.specs.List.{filter, All}
use Rattle.std.specs.Option.{option_map}
use Rattle.std.specs.Str.{bytes_eq}
use Rattle.std.proofs.lemmas.Slice.Eq.{bytes_eq-Decides}
use Rattle.gil_values.specs.Pure.{PureValue}
use Rattle.gil_values.specs.Symbols.{IsBelow, AreBelow}
use Rattle.gil_syntax.specs.Evaluation.{Store, value_of, Agrees}
use Rattle.assert_logic.specs.LogicStates.{Fact}
use Rattle.assert_logic.specs.Matching.{FoundFact, found_after, first_fact}
use Rattle.gil_syntax.proofs.Symbols.{HoldsOfAll, each_of_all, all_of_each}
use Rattle.gil_syntax.specs.Valid.{is_among}
use Rattle.checked_runs.proofs.Readable.{place_of, value_at_place}
use Rattle.sym_model.proofs.ListLaws.{same_some, not_none}
use Rattle.sym_model.specs.Lists.{Each}

-- ---- a store with fewer names

module _ (keep : List ℕ → Bool) where
  abbrev pub keeping : Store → Store
  keeping t = filter (λ b. keep b.name) t

  pub kept_value : (t : Store) (y : List ℕ) → keep y ≡ true → value_of (keeping t) y ≡ value_of t y
  kept_value [] y kept = refl
  kept_value (b ∷ t) y kept = by (bytes_eq b.name y) (keep b.name) refl refl (kept_value t y kept)
    where
      by : (e k : Bool) → bytes_eq b.name y ≡ e → keep b.name ≡ k → value_of (keeping t) y ≡ value_of t y
          → value_of (cond k (b ∷ keeping t) (keeping t)) y ≡ cond e (Some b.value) (value_of t y)
      by e true same is later = ap (λ c. cond c (Some b.value) (value_of (keeping t) y)) same ∙ ap (cond e (Some b.value)) later
      by false false same is later = later
      by true false same is later = absurd (true≢false (sym kept ∙ (ap keep (sym ((bytes_eq-Decides b.name y).0 same)) ∙ is)))

  pub other_value : (t : Store) (y : List ℕ) → keep y ≡ false → value_of (keeping t) y ≡ None
  other_value [] y other = refl
  other_value (b ∷ t) y other = by (bytes_eq b.name y) (keep b.name) refl refl (other_value t y other)
    where
      by : (e k : Bool) → bytes_eq b.name y ≡ e → keep b.name ≡ k → value_of (keeping t) y ≡ None → value_of (cond k (b ∷ keeping t) (keeping t)) y ≡ None
      by e false same is later = later
      by false true same is later = ap (λ c. cond c (Some b.value) (value_of (keeping t) y)) same ∙ later
      by true true same is later = absurd (true≢false (sym is ∙ (ap keep ((bytes_eq-Decides b.name y).0 same) ∙ other)))

  pub some_kept : (t : Store) (y : List ℕ) (w : PureValue) → value_of (keeping t) y ≡ Some w → (keep y ≡ true) × (value_of t y ≡ Some w)
  some_kept t y w is = by (keep y) refl
    where
      by : (k : Bool) → keep y ≡ k → (keep y ≡ true) × (value_of t y ≡ Some w)
      by true kept = (kept, sym (kept_value t y kept) ∙ is)
      by false other = not_none (sym (other_value t y other) ∙ is)

-- ---- below a counter

below_at : (counter : ℕ) (vs : List PureValue) (i : ℕ) (v : PureValue) → slice_get vs i ≡ Some v → HoldsOfAll (λ n. n < counter) vs → IsBelow counter v
below_at counter [] i v at all = not_none at
below_at counter (u ∷ vs) zero v at all = subst (IsBelow counter) (same_some at) all.0
below_at counter (u ∷ vs) (suc i) v at all = below_at counter vs i v at all.1

-- a value among those that are below the counter
pub value_below : (counter : ℕ) (vs : List PureValue) (i : ℕ) (v : PureValue) → AreBelow counter vs → slice_get vs i ≡ Some v → IsBelow counter v
value_below counter vs i v below at = below_at counter vs i v at (all_of_each (λ n. n < counter) vs below)

holds_all : (counter : ℕ) (vs : List PureValue) → Each (IsBelow counter) vs → HoldsOfAll (λ n. n < counter) vs
holds_all counter [] all = tt
holds_all counter (v ∷ vs) all = (all.0, holds_all counter vs all.1)

pub each_below : (counter : ℕ) (vs : List PureValue) → Each (IsBelow counter) vs → AreBelow counter vs
each_below counter vs all = each_of_all (λ n. n < counter) vs (holds_all counter vs all)

pub below_more : (low high : ℕ) (vs : List PureValue) → low ≤ high → AreBelow low vs → AreBelow high vs
below_more low high vs less below n occurs = omega (arith, less, below n occurs)

pub all_each : {X : Type 0} (P : X → Type 0) (xs : List X) → All P xs → Each P xs
all_each P [] all = tt
all_each P (x ∷ xs) all = (all 0 x (omega arith), all_each P xs (λ k d less. all (suc k) d (omega (arith, less))))

-- a name of a list and of values that agree
pub agreed_below : (counter : ℕ) (t : Store) (xs : List (List ℕ)) (vs : List PureValue) (y : List ℕ) (w : PureValue) → length xs ≡ length vs → Agrees t xs vs → AreBelow counter vs → is_among xs y ≡ true → value_of t y ≡ Some w → IsBelow counter w
agreed_below counter t xs vs y w as_many agree below among at =
    let (i, name) = place_of xs y among in
    let (u, (there, unused)) = value_at_place (λ n. n < counter) xs vs i y as_many name (all_of_each (λ n. n < counter) vs below) in
    subst (IsBelow counter) (same_some (sym (agree i y u name there) ∙ at)) (value_below counter vs i u below there)

pub found_in : (P : Fact → Type 0) (fits : Fact → Bool) (fs : List Fact) (found : FoundFact) → first_fact fits fs ≡ Some found → Each P fs → P found.fact
found_in P fits [] found is all = not_none is
found_in P fits (f ∷ fs) found is all = by (fits f) (first_fact fits fs) refl is (λ g rest. found_in P fits fs g rest all.1)
  where
    by : (b : Bool) (o : Option FoundFact) → first_fact fits fs ≡ o → cond b (Some (record { fact = f; place = 0; others = fs })) (option_map (found_after f) o) ≡ Some found → ((g : FoundFact) → first_fact fits fs ≡ Some g → P g.fact) → P found.fact
    by true o rest at later = subst (λ (g : FoundFact). P g.fact) (same_some at) all.0
    by false None rest at later = not_none at
    by false (Some g) rest at later = subst (λ (h : FoundFact). P h.fact) (same_some at) (later g rest)
