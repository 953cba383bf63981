-- Lists of which each element passes a test, and lists of plain values.
use Rattle.std.proofs.Common.{◌≡◌, ◌<◌, ◌≤◌, ◌+◌, ℕ, List, [], ◌∷◌, map, take, get_or, slice_get, length, Bool, true, false, not, ◌&&◌, ◌||◌, Option, Some, None, refl, sym, ap, ◌∙◌, true≢false, arith}
use Rattle.std.specs.Option.{option_map_or}
use Rattle.std.proofs.Math.Bool.{or-false}
use Rattle.std.specs.List.{list_all}
use Rattle.std.proofs.lemmas.List.{take_all}
use Rattle.std.proofs.lemmas.List.Folds.{list_all-append, list_all_at, list_all_more}
use Rattle.std.proofs.lemmas.Option.{slice_get_within}
use Rattle.gil_values.proofs.Lists.{get_or-found}
use Rattle.gil_syntax.specs.Pure.{PureExpr, from_list}
use Rattle.gil_syntax.specs.Simple.{is_plain_value, are_plain_values}
use Rattle.gil_syntax.proofs.ItemLemmas.{slice_get_none}
use Rattle.gil_syntax.proofs.NameLemmas.{map-take_read}

-- an element that fails
pub list_all-element : {X : Type 0} (test : X → Bool) (xs : List X) (i : ℕ) (x : X) → slice_get xs i ≡ Some x → test x ≡ false → list_all test xs ≡ false
list_all-element test xs i x is fails = list_all_at test xs i x (slice_get_within xs i x is) (ap test (get_or-found xs i x x is) ∙ fails)

-- the first elements pass, and the next one
pub list_all-next : {X Y : Type 0} (test : Y → Bool) (f : X → Y) (slice : List X) (i : ℕ) (x : X) → i < length slice → x ≡ get_or slice i x
    → list_all test (map f (take i slice)) ≡ true → test (f x) ≡ true → list_all test (map f (take (i + 1) slice)) ≡ true
list_all-next test f slice i x below is before passes =
    ap (list_all test) (map-take_read f slice i x below is)
    ∙ list_all-append test (map f (take i slice)) (f x ∷ [])
    ∙ (λ j. before j && (passes j && true))

-- and all
pub list_all-all : {X Y : Type 0} (test : Y → Bool) (f : X → Y) (slice xs : List X) (i : ℕ) → slice ≡ xs → length slice ≤ i
    → list_all test (map f (take i slice)) ≡ true → list_all test (map f xs) ≡ true
list_all-all test f slice xs i same past before = ap (λ ys. list_all test (map f ys)) (sym same ∙ sym (take_all i slice past)) ∙ before

pub are_plain_values-all : (es : List PureExpr) → are_plain_values (from_list es) ≡ list_all is_plain_value es
are_plain_values-all [] = refl
are_plain_values-all (e ∷ es) = ap (λ b. is_plain_value e && b) (are_plain_values-all es)

-- ---- elements by their places

module _ {X : Type 0} (test : X → Bool) (xs : List X) (i : ℕ) where
  pub passes_more : i < length xs → list_all test (take i xs) ≡ true → true ≡ option_map_or test (slice_get xs i) true → list_all test (take (i + 1) xs) ≡ true
  passes_more below before here = by (slice_get xs i) refl here
    where
      by : (o : Option X) → slice_get xs i ≡ o → true ≡ option_map_or test o true → list_all test (take (i + 1) xs) ≡ true
      by None at passes = absurd (omega (arith, below, slice_get_none xs i at))
      by (Some x) at passes = list_all_more test xs i x below ∙ (λ j. before j && (ap test (get_or-found xs i x x at) ∙ sym passes) j)

  pub fails_at : false ≡ option_map_or test (slice_get xs i) true → list_all test xs ≡ false
  fails_at here = by (slice_get xs i) refl here
    where
      by : (o : Option X) → slice_get xs i ≡ o → false ≡ option_map_or test o true → list_all test xs ≡ false
      by None at fails = absurd (true≢false (sym fails))
      by (Some x) at fails = list_all-element test xs i x at (sym fails)

-- ---- sizes

pub literal_size : (test : PureExpr → Bool) (b : Bool) (es : List PureExpr) → b ≡ true → list_all test es ≡ list_all (λ e. test e || not b) es
literal_size test b es is = λ j. list_all (λ e. (sym (or-false (test e)) ∙ ap (λ a. test e || not a) (sym is)) j) es

pub any_size : (test : PureExpr → Bool) (b : Bool) (es : List PureExpr) → b ≡ false → true ≡ list_all (λ e. test e || not b) es
any_size test b [] isnt = refl
any_size test b (e ∷ es) isnt = any_size test b es isnt ∙ (λ j. (sym (or-true (test e)) ∙ ap (λ a. test e || not a) (sym isnt)) j && list_all (λ d. test d || not b) es)
  where
    or-true : (a : Bool) → (a || true) ≡ true
    or-true true = refl
    or-true false = refl
