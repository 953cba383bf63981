-- Which conditions are the same.
use Rattle.std.specs.Prelude.{List, Bool, false}
use Rattle.std.specs.List.{list_any}
use Rattle.pure_terms.specs.Equality.{same_term}
use Rattle.pure_terms.specs.Pure.{PureAtom, positive, negative, opening}

-- the same is said of the same term
abbrev pub same_atom : PureAtom → PureAtom → Bool
same_atom (positive s) (positive t) = same_term s t
same_atom (negative s) (negative t) = same_term s t
same_atom (opening s) (opening t) = same_term s t
same_atom _ _ = false

-- the condition is one of the list
abbrev pub stands_among : List PureAtom → PureAtom → Bool
stands_among atoms a = list_any (same_atom a) atoms
