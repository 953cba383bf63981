-- What a set of names and a table of places tell of the names of a list.
use Rattle.std.specs.Prelude.{ℕ, suc, List, [], ◌∷◌, Bool, Option, Some, None, if◌then◌else◌}
use Rattle.std.specs.Option.{option_map}
use Rattle.std.specs.Str.{bytes_eq}
use Rattle.std.specs.HashSet.{HashSet, contains_by}
use Rattle.std.specs.HashMap.{HashMap, get_by}
use denote.Ref.{Bor}

abbrev pub has_name : {S : Type 0} → HashSet (Bor (List ℕ)) S → List ℕ → Bool
has_name s x = contains_by (λ k. bytes_eq x k.now) s

abbrev pub place_of : {S : Type 0} → HashMap (Bor (List ℕ)) ℕ S → List ℕ → Option ℕ
place_of m x = get_by (λ k. bytes_eq x k.now) m

-- the place where a name stands first in a list, counted from 0
abbrev pub first_place : List (List ℕ) → List ℕ → Option ℕ
first_place [] x = None
first_place (y ∷ ys) x = if bytes_eq x y then Some 0 else option_map suc (first_place ys x)
