-- Terms, atoms and uses of core predicates as an assertion has them: with a name for each variable.
use Rattle.std.specs.Prelude.{ℕ, zero, suc, List, [], ◌∷◌, ◌++◌, map, length, slice_get, true, if◌then◌else◌, Option, Some, None, codes}
use Rattle.gil_values.specs.declared.operators.UnOp.TheVariants.{Not}
use Rattle.gil_values.specs.declared.operators.BinOp.TheVariants.{Equal}
use Rattle.gil_values.specs.Printed.{numeral}
use Rattle.gil_values.specs.Pure.{boolean}
use Rattle.gil_syntax.specs.Pure.{PureExpr, PureExprs, no_exprs, expr_and, PurePredUse, PureItem, pure, uses}
use Rattle.gil_syntax.specs.Pure as expr
use Rattle.gil_syntax.specs.WellMade.{has_hash}
use Rattle.gil_grammar.specs.Assertions.{may_be_item}
use Rattle.pure_terms.specs.Meaning.{literal_value}
use Rattle.pure_terms.specs.Pure.{PureTerm, literal, variable, list_of, unary_of, binary_of, PureTerms, no_terms, term_and, PureAtom, positive, negative, opening}
use Rattle.sym_model.specs.Pure.{PureUse}

-- ---- names

-- `#v` and the number
abbrev pub numbered : ℕ → List ℕ
numbered n = codes "#v" ++ numeral n

-- so many of these, from a number on
abbrev pub numbered_from : ℕ → ℕ → List (List ℕ)
numbered_from n zero = []
numbered_from n (suc count) = numbered n ∷ numbered_from (suc n) count

-- the names of a table of variables, of which the first are parameters: those of the parameters, and `#v` and the number of each of the
-- others
abbrev pub table_names : List (List ℕ) → ℕ → List (List ℕ)
table_names params others = params ++ numbered_from (length params) others

-- ---- terms

abbrev pub named : List ℕ → PureExpr
named x = if has_hash x then expr.logical x else expr.name x

abbrev pub name_or_none : Option (List ℕ) → List ℕ
name_or_none (Some x) = x
name_or_none None = []

-- the expression that a term is, with these names for the variables 0, 1, 2 and so on
abbrev mutual
  pub expr_of : List (List ℕ) → PureTerm → PureExpr
  expr_of names (literal l) = expr.literal (literal_value l)
  expr_of names (variable x) = named (name_or_none (slice_get names x.number))
  expr_of names (list_of ts) = expr.list_of (exprs_of names ts)
  expr_of names (unary_of op t) = expr.unary_of op (expr_of names t)
  expr_of names (binary_of op s t) = expr.binary_of op (expr_of names s) (expr_of names t)

  pub exprs_of : List (List ℕ) → PureTerms → PureExprs
  exprs_of names no_terms = no_exprs
  exprs_of names (term_and t ts) = expr_and (expr_of names t) (exprs_of names ts)

-- ---- items

abbrev pub equal : PureExpr → PureExpr → PureExpr
equal d e = expr.binary_of Equal d e

-- That an expression is true, as an item. Only operators between two operands and `not` are written as items: any other expression is said
-- to be equal to true.
abbrev pub true_item : PureExpr → PureItem
true_item e = if may_be_item e then pure e else pure (equal e (expr.literal (boolean true)))

-- An atom as an item. That a term has a value is said as that it is equal to itself.
abbrev pub item_of : List (List ℕ) → PureAtom → PureItem
item_of names (positive t) = true_item (expr_of names t)
item_of names (negative t) = pure (expr.unary_of Not (expr_of names t))
item_of names (opening t) = pure (equal (expr_of names t) (expr_of names t))

abbrev pub use_item : List (List ℕ) → PureUse → PureItem
use_item names u = uses (record { pred = u.core; ins = map (expr_of names) u.ins; outs = map (expr_of names) u.outs })

-- the uses in order, and then the atoms
abbrev pub assertion_of : List (List ℕ) → List PureUse → List PureAtom → List PureItem
assertion_of names us conds = map (use_item names) us ++ map (item_of names) conds
