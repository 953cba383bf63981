-- How far terms reach: how deep their nodes stand, and how many there are.
use Rattle.std.specs.Prelude.{ℕ, suc, max, ◌≤◌}
use Rattle.pure_terms.specs.Pure.{PureTerm, literal, variable, list_of, unary_of, binary_of, PureTerms, no_terms, term_and, size}

-- how many nodes stand above the deepest one
abbrev mutual
  pub depth : PureTerm → ℕ
  depth (literal l) = 0
  depth (variable x) = 0
  depth (list_of ts) = suc (deepest ts)
  depth (unary_of op t) = suc (depth t)
  depth (binary_of op s t) = suc (max (depth s) (depth t))

  pub deepest : PureTerms → ℕ
  deepest no_terms = 0
  deepest (term_and t ts) = max (depth t) (deepest ts)

-- The term is at most so deep and has at most so many nodes, where each place at which a subterm stands counts.
pub record IsWithin (limit most : ℕ) (t : PureTerm) : Type 0 where
  pub shallow : depth t ≤ limit
  pub small : size t ≤ most
