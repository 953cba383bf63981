-- The nodes of a term below its root.
use Rattle.std.specs.Prelude.{List, [], ◌++◌}
use Rattle.pure_terms.specs.Pure.{PureTerm, literal, variable, list_of, unary_of, binary_of, subterms, subterms_of_all}

-- all that stands in a term but the term itself, from left to right
abbrev pub below : PureTerm → List PureTerm
below (literal l) = []
below (variable x) = []
below (list_of ts) = subterms_of_all ts
below (unary_of op t) = subterms t
below (binary_of op s t) = subterms s ++ subterms t
