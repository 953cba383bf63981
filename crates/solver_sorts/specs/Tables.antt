-- Sorts that are noted atom by atom.
use Rattle.std.specs.Prelude.{◌≡◌, ◌⊎◌, ℕ, ◌<◌, List, set}
use Rattle.pure_terms.specs.declared.variables.Sort.{Sort}
use Rattle.pure_terms.specs.Pure.{PureAtom}
use Rattle.solver_sorts.specs.Sorting.{SaysSort}

-- a variable of which the atom says a sort has a lower number
abbrev pub IsWithin : PureAtom → ℕ → Type 0
IsWithin a n = (x : ℕ) (s : Sort) → SaysSort a x s → x < n

pub record IsSet (a : PureAtom) (old new : List Sort) : Type 0 where
  pub number : ℕ
  pub sort : Sort
  pub says : SaysSort a number sort
  pub is : new ≡ set old number sort

abbrev pub IsLeft : PureAtom → List Sort → List Sort → Type 0
IsLeft a old new = ((x : ℕ) (s : Sort) → SaysSort a x s → ⊥) × (new ≡ old)

-- the variable has the sort that the atom says, or it says none
abbrev pub IsNoted : PureAtom → List Sort → List Sort → Type 0
IsNoted a old new = IsSet a old new ⊎ IsLeft a old new
