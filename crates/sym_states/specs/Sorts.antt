-- The sorts of new variables: they have the values that the declarations of a name leave to it.
use Rattle.std.specs.Prelude.{◌≡◌, ◌⊎◌, ℕ, List, Bool, false, not, ◌&&◌, ◌||◌, Option, Some, None}
use Rattle.std.specs.Str.{bytes_eq}
use Rattle.gil_values.specs.Pure.{PureValue}
use Rattle.gil_syntax.specs.declared.assertions.Param.{Param}
use Rattle.gil_syntax.specs.declared.assertions.SpecSort.{SpecSort}
use Rattle.gil_syntax.specs.declared.assertions.SpecSort.TheVariants.{Int, Bool as Boolean, Str, Sym, List as OfLists, Any}
use Rattle.assert_logic.specs.Sorts.{fits_sorts}
use Rattle.assert_logic.specs.Sorts as declared
use Rattle.pure_terms.specs.declared.variables.Sort.{Sort}
use Rattle.pure_terms.specs.Kinds.{has_sort}

abbrev pub declared_sort : SpecSort → Sort
declared_sort Int = Sort.Int
declared_sort Boolean = Sort.Bool
declared_sort Str = Sort.Str
declared_sort Sym = Sort.Sym
declared_sort OfLists = Sort.List
declared_sort Any = Sort.Any

-- The sort has exactly these values, and is no sort of new symbols, unless the sort before it is; or there are none.
abbrev pub HasValues : (PureValue → Bool) → (Sort → Type 0) → Option Sort → Type 0
HasValues test From (Some sort) = ((w : PureValue) → has_sort sort w ≡ test w) × From sort
HasValues test From None = (w : PureValue) → test w ≡ false

-- the values that both sorts have
abbrev pub IsCommon : Sort → Sort → Option Sort → Type 0
IsCommon first second o = HasValues (λ w. has_sort first w && has_sort second w) (λ sort. (sort ≡ first) ⊎ (sort ≡ second)) o

-- the declaration leaves the value to the name
abbrev pub leaves : Param → List ℕ → PureValue → Bool
leaves q x w = not (bytes_eq q.name x) || declared.has_sort q.sort w

-- the values of the sort that the declaration leaves to the name
abbrev pub IsNarrowed : Sort → Param → List ℕ → Option Sort → Type 0
IsNarrowed before q x o =
    HasValues (λ w. has_sort before w && leaves q x w) (λ sort. ¬ (before ≡ Sort.Fresh) → ¬ (sort ≡ Sort.Fresh)) o

-- the values that all declarations leave to the name
abbrev pub IsSortOf : List Param → List ℕ → Option Sort → Type 0
IsSortOf ps x o = HasValues (fits_sorts ps x) (λ sort. ¬ (sort ≡ Sort.Fresh)) o
