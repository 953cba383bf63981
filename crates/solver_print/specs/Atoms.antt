-- Printed atoms: a term that is true as itself, one that is false as `not(..)`, one that has a value as `open(..)`.
use Rattle.std.specs.Prelude.{ℕ, List, ◌++◌, codes}
use Rattle.pure_terms.specs.Pure.{PureAtom, positive, negative, opening}
use Rattle.solver_print.specs.Terms.{printed_term}

abbrev pub printed_atom : List (List ℕ) → PureAtom → List ℕ
printed_atom names (positive t) = printed_term names t
printed_atom names (negative t) = codes "not(" ++ printed_term names t ++ codes ")"
printed_atom names (opening t) = codes "open(" ++ printed_term names t ++ codes ")"
