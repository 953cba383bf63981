-- Answers that come of the elements of a list, one after another.
use Rattle.std.specs.Prelude.{◌≡◌, List, [], ◌∷◌, ◌++◌}
use Rattle.checked_paths.specs.Pure.{PureNext}

abbrev pub GathersNexts : {A S : Type 0} → (A → List (PureNext S) → Type 0) → List A → List (PureNext S) → Type 0
GathersNexts R [] ks = ks ≡ []
GathersNexts {S = S} R (x ∷ xs) ks =
    (first : List (PureNext S)) × ((rest : List (PureNext S)) × (R x first × GathersNexts R xs rest × (ks ≡ first ++ rest)))
