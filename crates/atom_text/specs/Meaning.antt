-- What the expressions of a text say: the atoms over the variables that are declared.
use Rattle.std.specs.Prelude.{◌≡◌, ◌⊎◌, ℕ, List, [], ◌∷◌}
use Rattle.std.specs.List.{Contains}
use Rattle.gil_values.specs.declared.operators.UnOp.TheVariants.{Not}
use Rattle.gil_syntax.specs.Pure.{PureExpr, literal, name, logical, list_of, unary_of, binary_of, PureExprs, no_exprs, expr_and}
use Rattle.pure_terms.specs.Meaning.{IsOver}
use Rattle.pure_terms.specs.Pure.{PureTerm, PureAtom, positive, negative, opening}
use Rattle.pure_terms.specs.declared.variables.Sort.{Sort}
use Rattle.solver_print.specs.Terms.{expr_of}
use Rattle.atom_text.specs.Sources.{PureStated}

-- the expression is that of the term over these variables, with their names
pub record IsTermOf (names : List (List ℕ)) (vars : List Sort) (e : PureExpr) (t : PureTerm) : Type 0 where
  pub over : IsOver vars t
  pub said : expr_of names t ≡ e

-- not(..)
abbrev pub IsDenial : PureExpr → Type 0
IsDenial e = (d : PureExpr) × (e ≡ unary_of Not d)

-- An expression `not(e)` says that e is false, and any other that it is true.
abbrev pub IsAtomOf : List (List ℕ) → List Sort → PureExpr → PureAtom → Type 0
IsAtomOf names vars e (positive t) = IsTermOf names vars e t × (IsDenial e → ⊥)
IsAtomOf names vars e (negative t) = (d : PureExpr) × (e ≡ unary_of Not d) × IsTermOf names vars d t
IsAtomOf names vars e (opening t) = ⊥

-- each expression of a text says the atom at its place
abbrev pub AreAtomsOf : List (List ℕ) → List Sort → List PureStated → List PureAtom → Type 0
AreAtomsOf names vars [] [] = Unit {0}
AreAtomsOf names vars (s ∷ stated) (a ∷ atoms) = IsAtomOf names vars s.expression a × AreAtomsOf names vars stated atoms
AreAtomsOf names vars _ _ = ⊥

-- a variable of the expression is none of these names
abbrev mutual
  pub NamesAnother : List (List ℕ) → PureExpr → Type 0
  NamesAnother names (literal v) = ⊥
  NamesAnother names (name x) = Contains names x → ⊥
  NamesAnother names (logical x) = ⊥
  NamesAnother names (list_of es) = SomeNameAnother names es
  NamesAnother names (unary_of op e) = NamesAnother names e
  NamesAnother names (binary_of op d e) = NamesAnother names d ⊎ NamesAnother names e

  pub SomeNameAnother : List (List ℕ) → PureExprs → Type 0
  SomeNameAnother names no_exprs = ⊥
  SomeNameAnother names (expr_and e es) = NamesAnother names e ⊎ SomeNameAnother names es
