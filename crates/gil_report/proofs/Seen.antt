-- Lists of elements that a function sees.
use Rattle.std.proofs.Common.{◌≡◌, ℕ, List, [], ◌∷◌, ◌++◌, map, refl, ap}
use Rattle.std.specs.List.{join_by, flat_map}
use Rattle.std.specs.Prelude.{codes}
use Rattle.serde_json.specs.Data.{Data, string}
use Rattle.serde_json.specs.View.{items_of}
use Rattle.gil_report.specs.Json.{texts}
use Rattle.gil_report.specs.Printed.{bracketed}

-- what is printed of elements that a function sees so
join_by-seen : {X Y : Type 0} (printed : Y → List ℕ) (view : X → Y) (separator : List ℕ) (xs : List X)
    → join_by (λ x. printed (view x)) separator xs ≡ join_by printed separator (map view xs)
join_by-seen printed view separator [] = refl
join_by-seen {X = X} printed view separator (x ∷ xs) = ap (λ rest. printed (view x) ++ rest) (later xs)
  where
    later : (ys : List X) → flat_map (λ y. separator ++ printed (view y)) ys ≡ flat_map (λ y. separator ++ printed y) (map view ys)
    later [] = refl
    later (y ∷ ys) = ap (λ rest. (separator ++ printed (view y)) ++ rest) (later ys)

pub bracketed-seen : {X Y : Type 0} (printed : Y → List ℕ) (view : X → Y) (xs : List X)
    → bracketed (λ x. printed (view x)) xs ≡ bracketed printed (map view xs)
bracketed-seen printed view xs = ap (λ joined. codes "[" ++ joined ++ codes "]") (join_by-seen printed view (codes ", ") xs)

items-seen : {X Y : Type 0} (printed : Y → List ℕ) (view : X → Y) (xs : List X)
    → map (λ x. string (printed (view x))) xs ≡ map (λ y. string (printed y)) (map view xs)
items-seen printed view [] = refl
items-seen printed view (x ∷ xs) = ap (λ rest. string (printed (view x)) ∷ rest) (items-seen printed view xs)

pub texts-seen : {X Y : Type 0} (printed : Y → List ℕ) (view : X → Y) (xs : List X)
    → texts (λ x. printed (view x)) xs ≡ texts printed (map view xs)
texts-seen printed view xs = ap (λ items. Data.array (items_of items)) (items-seen printed view xs)
