-- The sorts of values, and stores whose values have the sorts of the names that are declared.
use Rattle.std.specs.Prelude.{◌≡◌, ℕ, List, Bool, true, false, not, ◌||◌, Some, IsTrue}
use Rattle.std.specs.List.{list_all}
use Rattle.std.specs.Str.{bytes_eq}
use Rattle.gil_values.specs.Pure.{PureValue, integer, boolean, text, symbol, list}
use Rattle.gil_syntax.specs.declared.assertions.SpecSort.{SpecSort}
use Rattle.gil_syntax.specs.declared.assertions.SpecSort.TheVariants.{Int, Bool as Boolean, Str, Sym, List as OfLists, Any}
use Rattle.gil_syntax.specs.declared.assertions.Param.{Param}
use Rattle.gil_syntax.specs.Evaluation.{Store, value_of}

abbrev pub has_sort : SpecSort → PureValue → Bool
has_sort Any v = true
has_sort Int (integer n) = true
has_sort Boolean (boolean b) = true
has_sort Str (text cs) = true
has_sort Sym (symbol n) = true
has_sort OfLists (list vs) = true
has_sort _ _ = false

-- the value has each sort that is declared for the name: of two sorts both
abbrev pub fits_sorts : List Param → List ℕ → PureValue → Bool
fits_sorts ps x v = list_all (λ q. not (bytes_eq q.name x) || has_sort q.sort v) ps

abbrev pub HasSorts : List Param → Store → Type 0
HasSorts ps s = (x : List ℕ) (v : PureValue) → value_of s x ≡ Some v → IsTrue (fits_sorts ps x v)

-- each value that a store gives a name stays when it becomes another one
abbrev pub Extends : Store → Store → Type 0
Extends s t = (x : List ℕ) (v : PureValue) → value_of s x ≡ Some v → value_of t x ≡ Some v
