-- What holds of every list whose variables get the sorts that it says.
use Rattle.std.specs.Prelude.{◌↔◌, List}
use Rattle.gil_values.specs.Pure.{PureValue}
use Rattle.pure_terms.specs.declared.variables.Sort.{Sort}
use Rattle.pure_terms.specs.Meaning.{AreOver, Satisfies}
use Rattle.pure_terms.specs.Pure.{PureAtom}
use Rattle.solver_sorts.specs.Sorting.{IsSortedTable, sorted_atoms}

-- The list over the sorted table is met by the same valuations.
abbrev pub SortedListsHaveTheSameSolutions : Type 0
SortedListsHaveTheSameSolutions =
    (vars sorted : List Sort) (list : List PureAtom) → AreOver vars list → IsSortedTable vars list sorted
    → (v : List PureValue) → Satisfies vars v list ↔ Satisfies sorted v (sorted_atoms sorted list)

-- It names only variables of the sorted table.
abbrev pub SortedListsAreOver : Type 0
SortedListsAreOver =
    (vars sorted : List Sort) (list : List PureAtom) → AreOver vars list → IsSortedTable vars list sorted → AreOver sorted (sorted_atoms sorted list)
