-- What `get` of a slice says of the list of its elements, each seen by a function.
use Rattle.std.proofs.Common.{◌≡◌, ℕ, ◌+◌, ◌<◌, List, map, take, get_or, Option, Some, None, unwrap_or, slice_get, length, refl, sym, ◌∙◌, ap, Bor}
use Rattle.std.proofs.lemmas.List.{take_more_same}
use Rattle.std.proofs.lemmas.Option.{slice_get_past, slice_get_read, slice_get_within, slice_get-map, unwrap_or-slice_get}
use Rattle.std.specs.Option.{option_map}
use Rattle.std.specs.Slice.{IsItemAt}

slice_get-item : {X Y : Type 0} (f : X → Y) (xs : List X) (i : ℕ) (r : Option (Bor X)) → IsItemAt xs i r → option_map f (slice_get xs i) ≡ option_map (λ x. f x.now) r
slice_get-item f xs i None h = ap (option_map f) (slice_get_past xs i h.3)
slice_get-item f xs i (Some x) h = ap (option_map f) (slice_get_read xs (length xs) i x.now refl h.3.0 h.1)

-- the element that is lent, seen by f, is the one at the same place of the list seen by f
pub option_map-item : {X Y : Type 0} (f : X → Y) (xs : List X) (i : ℕ) (r : Option (Bor X)) → IsItemAt xs i r → option_map (λ x. f x.now) r ≡ slice_get (map f xs) i
option_map-item f xs i r h = sym (slice_get-item f xs i r h) ∙ sym (slice_get-map f xs i)

-- an element that was read, seen by f, is the one at the same place of the list seen by f
pub slice_get-read : {X Y : Type 0} (f : X → Y) (xs : List X) (i : ℕ) (x : X) → i < length xs → x ≡ get_or xs i x → slice_get (map f xs) i ≡ Some (f x)
slice_get-read f xs i x below is = slice_get-map f xs i ∙ ap (option_map f) (slice_get_read xs (length xs) i x refl below is)

-- the element that was found is the one that `get_or` gives
pub get_or-found : {X : Type 0} (xs : List X) (i : ℕ) (x d : X) → slice_get xs i ≡ Some x → get_or xs i d ≡ x
get_or-found xs i x d found = sym (unwrap_or-slice_get xs i d) ∙ ap (λ o. unwrap_or o d) found

-- two lists that begin alike, and have one element in common at the next place, begin alike one further
pub take_further : {X : Type 0} (xs ys : List X) (i : ℕ) (x : X) → take i xs ≡ take i ys → slice_get xs i ≡ Some x → slice_get ys i ≡ Some x → take (i + 1) xs ≡ take (i + 1) ys
take_further xs ys i x begin here there =
    take_more_same xs ys i x (slice_get_within xs i x here) (slice_get_within ys i x there) begin (get_or-found xs i x x here ∙ sym (get_or-found ys i x x there))
