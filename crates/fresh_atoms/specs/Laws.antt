-- Atoms over fresh variables.
use Rattle.std.specs.Prelude.{◌≡◌, List, ◌++◌, Bool, true, false, IsTrue}
use Rattle.std.specs.List.{list_all}
use Rattle.gil_values.specs.Pure.{PureValue}
use Rattle.pure_terms.specs.declared.variables.Sort.{Sort}
use Rattle.pure_terms.specs.Fragment.{has_fragment_form, names_sort}
use Rattle.pure_terms.specs.Kinds.{same_sort}
use Rattle.pure_terms.specs.Meaning.{truth, IsProper, IsOver}
use Rattle.pure_terms.specs.Pure.{PureAtom, term_of}

-- any, or list
abbrev pub is_any_or_list : Sort → Bool
is_any_or_list Sort.Any = true
is_any_or_list Sort.List = true
is_any_or_list _ = false

-- Over a table of sorts any and list and then fresh variables alone, an atom of a fragment form that names a fresh variable has one
-- truth. Another variable may stand in it as one side of an `=` alone, which is false where the other side is a later new symbol; and
-- new symbols differ from each other and from all literals, however they are named.
abbrev pub FreshAtomsAreConstant : Type 0
FreshAtomsAreConstant =
    (given new : List Sort) (a : PureAtom) (v w : List PureValue)
    → IsTrue (list_all is_any_or_list given) → IsTrue (list_all (same_sort Sort.Fresh) new)
    → IsOver (given ++ new) (term_of a) → IsTrue (has_fragment_form a) → IsTrue (names_sort Sort.Fresh (term_of a))
    → IsProper (given ++ new) v → IsProper (given ++ new) w
    → truth v a ≡ truth w a
