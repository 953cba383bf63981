-- The printed elements of a list, one after another, with a separator between one and the next.
use Rattle.std.proofs.Common.{◌≡◌, ◌≤◌, ◌<◌, length, get_or, subst, ◌+◌, ℕ, zero, suc, List, [], ◌∷◌, ◌++◌, map, take, Some, slice_get, refl, sym, ap, append_assoc, append-nil, arith, add-one}
use Rattle.std.specs.Prelude.{codes}
use Rattle.std.proofs.lemmas.List.{take_all, length-map}
use Rattle.std.proofs.lemmas.Option.{slice_get_read}
use Rattle.gil_values.proofs.Lists.{slice_get-read}
use Rattle.std.specs.List.{join_by, flat_map}
use Rattle.gil_values.specs.Pure.{PureValue, from_list}
use Rattle.gil_values.specs.View.{value_view}
use Rattle.gil_values.specs.declared.tree.Value.{Value}
use Rattle.gil_values.specs.Printed.{printed_value, printed_values}
use Rattle.gil_values.specs.Pieces.{printed_list, separator_before}

module _ {X : Type 0} (printed : X → List ℕ) (separator : List ℕ) where
  -- the elements after the first, each behind its separator
  abbrev pub after : List X → List ℕ
  after xs = flat_map (λ x. separator ++ printed x) xs

  after-take : (xs : List X) (k : ℕ) (x : X) → slice_get xs k ≡ Some x → after (take (suc k) xs) ≡ after (take k xs) ++ (separator ++ printed x)
  after-take [] k x e = cc
  after-take (y ∷ xs) zero x e = let same : y ≡ x = cc in rw (same, append-nil (separator ++ printed x)) refl
  after-take (y ∷ xs) (suc k) x e = rw (after-take xs k x e) (sym (append_assoc (separator ++ printed y) (after (take k xs)) (separator ++ printed x)))

  -- one element more
  pub join_by-take : (xs : List X) (k : ℕ) (x : X) → slice_get xs k ≡ Some x
      → join_by printed separator (take (k + 1) xs) ≡ join_by printed separator (take k xs) ++ (separator_before separator k ++ printed x)
  join_by-take [] k x e = cc
  join_by-take (y ∷ xs) zero x e = let same : y ≡ x = cc in rw (same, append-nil (printed x)) refl
  join_by-take (y ∷ xs) (suc k) x e = rw add-one (rw (after-take xs k x e) (sym (append_assoc (printed y) (after (take k xs)) (separator ++ printed x))))

  -- the text with one element more, where its separator and then the element were added
  pub pushed : (xs : List X) (k : ℕ) (x : X) (start before mid all : List ℕ) → slice_get xs k ≡ Some x
      → before ≡ start ++ join_by printed separator (take k xs) → mid ≡ before ++ separator_before separator k → all ≡ mid ++ printed x
      → all ≡ start ++ join_by printed separator (take (k + 1) xs)
  pushed xs k x start before mid all found e f g = rw (g, f, e, join_by-take xs k x found) (simp append_assoc)

  -- the text with all elements
  pub all_pushed : (xs : List X) (k : ℕ) (start all : List ℕ) → length xs ≤ k
      → all ≡ start ++ join_by printed separator (take k xs) → all ≡ start ++ join_by printed separator xs
  all_pushed xs k start all past e = rw (take_all k xs past) at e

abbrev pub joined : List PureValue → List ℕ
joined vs = join_by printed_value (codes ", ") vs

printed_values-from_list : (vs : List PureValue) → printed_values (from_list vs) ≡ map printed_value vs
printed_values-from_list [] = refl
printed_values-from_list (v ∷ vs) = ap (λ ps. printed_value v ∷ ps) (printed_values-from_list vs)

-- text by text, or element by element
pub join_by-map : {X : Type 0} (printed : X → List ℕ) (separator : List ℕ) (xs : List X) → join_by (λ text. text) separator (map printed xs) ≡ join_by printed separator xs
join_by-map printed separator [] = refl
join_by-map {X = X} printed separator (x ∷ xs) = ap (λ rest. printed x ++ rest) (later xs)
  where
    later : (ys : List X) → flat_map (λ text. separator ++ text) (map printed ys) ≡ flat_map (λ y. separator ++ printed y) ys
    later [] = refl
    later (y ∷ ys) = ap (λ rest. (separator ++ printed y) ++ rest) (later ys)

pub printed_list-joined : (vs : List PureValue) → printed_list vs ≡ codes "[" ++ joined vs ++ codes "]"
printed_list-joined vs = rw (printed_values-from_list vs, join_by-map printed_value (codes ", ") vs) refl

pub joined-take : (vs : List PureValue) (k : ℕ) (v : PureValue) → slice_get vs k ≡ Some v → joined (take (k + 1) vs) ≡ joined (take k vs) ++ (separator_before (codes ", ") k ++ printed_value v)
joined-take = join_by-take printed_value (codes ", ")

-- the element that was read from a slice, seen by f, is the one at the same place of the list seen by f
pub element_read : {X Y : Type 0} (f : Y → X) (items : List Y) (xs : List X) (i : ℕ) (y : Y) → map f items ≡ xs → i < length items → y ≡ get_or items i y → slice_get xs i ≡ Some (f y)
element_read f items xs i y seen within is = subst (λ zs. slice_get zs i ≡ Some (f y)) seen (slice_get-read f items i y within is)

-- and where the slice is the list itself
pub item_read : {X : Type 0} (items xs : List X) (i : ℕ) (x : X) → items ≡ xs → i < length items → x ≡ get_or items i x → slice_get xs i ≡ Some x
item_read items xs i x same within is = subst (λ zs. slice_get zs i ≡ Some x) same (slice_get_read items (length items) i x refl within is)

-- no element is left behind the list's end
pub take-values : (items : List Value) (vs : List PureValue) (k : ℕ) → map value_view items ≡ vs → length items ≤ k → take k vs ≡ vs
take-values items vs k e past = take_all k vs (omega (arith, simp length-map at (ap length e)))
