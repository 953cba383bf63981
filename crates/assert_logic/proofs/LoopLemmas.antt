-- What loops over lists have left to do.
use Rattle.std.proofs.Common.{◌≡◌, ◌<◌, ◌≤◌, ◌+◌, ℕ, zero, suc, List, [], ◌∷◌, length, map, drop, get_or, slice_get, Bool, true, false, ◌&&◌, cond, Option, Some, None, refl, sym, ap, ◌∙◌, arith, drop-cons}
use Rattle.std.specs.List.{list_all}
use Rattle.std.specs.Str.{bytes_eq}
use Rattle.std.proofs.lemmas.Option.{slice_get_within}
use Rattle.std.specs.Option.{option_and_then}
use Rattle.gil_values.proofs.Lists.{slice_get-read}
use Rattle.gil_syntax.specs.declared.parts.Spec.{Spec}
use Rattle.gil_syntax.specs.Programs.{find_spec}
use Rattle.gil_syntax.specs.View.{spec_view}
use Rattle.assert_logic.specs.declared.checking.ModeKind.{ModeKind}

-- the next item, and no item past the end
pub next_of : {X : Type 0} (xs : List X) (i : ℕ) (x : X) → i < length xs → x ≡ get_or xs i x → drop i xs ≡ x ∷ drop (i + 1) xs
next_of xs i x below is =
    let more : suc i ≡ i + 1 = omega arith in
    drop-cons xs i x below ∙ ap (λ y. y ∷ drop (suc i) xs) (sym is) ∙ ap (λ n. x ∷ drop n xs) more

pub none_left : {X : Type 0} (xs : List X) (i : ℕ) → length xs ≤ i → drop i xs ≡ []
none_left [] i past = nothing_left i
  where
    nothing_left : {X : Type 0} (i : ℕ) → ◌≡◌ {A = List X} (drop i []) []
    nothing_left zero = refl
    nothing_left (suc i) = refl
none_left (x ∷ xs) zero past = absurd (omega (arith, past))
none_left (x ∷ xs) (suc i) past = none_left xs i (omega (arith, past))

-- ---- a specification by name

module _ (f : List ℕ) (specs : List Spec) (i : ℕ) where
  pub spec_next : (s : Spec) → i < length specs → s ≡ get_or specs i s → find_spec (map spec_view specs) f ≡ find_spec (map spec_view (drop i specs)) f
      → find_spec (map spec_view specs) f ≡ cond (bytes_eq (spec_view s).name f) (Some (spec_view s)) (find_spec (map spec_view (drop (i + 1) specs)) f)
  spec_next s below is before = before ∙ ap (λ ys. find_spec (map spec_view ys) f) (next_of specs i s below is)

  pub spec_none : length specs ≤ i → find_spec (map spec_view specs) f ≡ find_spec (map spec_view (drop i specs)) f → find_spec (map spec_view specs) f ≡ None
  spec_none past before = before ∙ ap (λ ys. find_spec (map spec_view ys) f) (none_left specs i past)

-- ---- lists of expressions

pub all_fails : {X : Type 0} (test : X → Bool) (xs : List X) (i : ℕ) (x : X) → slice_get xs i ≡ Some x → test x ≡ false → list_all test xs ≡ false
all_fails test [] i x is fails = absurd (cc)
all_fails test (y ∷ ys) zero x is fails = ap (λ b. b && list_all test ys) (ap test (same is) ∙ fails)
  where
    same : Some y ≡ Some x → y ≡ x
    same is = cc
all_fails test (y ∷ ys) (suc i) x is fails = by (test y) (all_fails test ys i x is fails)
  where
    by : (b : Bool) → list_all test ys ≡ false → (b && list_all test ys) ≡ false
    by true later = later
    by false later = refl

-- ---- the first place that has a fault

pub map_length : {X Y : Type 0} (f : X → Y) (xs : List X) → length (map f xs) ≡ length xs
map_length f [] = refl
map_length f (x ∷ xs) = ap suc (map_length f xs)

module _ {X Y : Type 0} (view : X → Y) (fault : Y → Option ModeKind) (xs : List X) where
  pub at_place : (i : ℕ) (x : X) (o : Option ModeKind) → i < length xs → x ≡ get_or xs i x → o ≡ fault (view x) → option_and_then fault (slice_get (map view xs) i) ≡ o
  at_place i x o below is here = ap (option_and_then fault) (slice_get-read view xs i x below is) ∙ sym here

  pub past_all : (i : ℕ) → length xs ≤ i → ((j : ℕ) → j < i → option_and_then fault (slice_get (map view xs) j) ≡ None) → (j : ℕ) → option_and_then fault (slice_get (map view xs) j) ≡ None
  past_all i past before j = by (slice_get (map view xs) j) refl
    where
      by : (o : Option Y) → slice_get (map view xs) j ≡ o → option_and_then fault (slice_get (map view xs) j) ≡ None
      by None is = ap (option_and_then fault) is
      by (Some y) is =
          let within = slice_get_within (map view xs) j y is in
          let same = map_length view xs in
          before j (omega (arith, within, same, past))
