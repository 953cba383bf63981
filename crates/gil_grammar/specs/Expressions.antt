-- The lexemes of expressions.
use Rattle.std.specs.Prelude.{◌≡◌, List, ◌∷◌, Some}
use Rattle.gil_lexemes.specs.declared.standing.Lexeme.{Lexeme}
use Rattle.gil_lexemes.specs.declared.standing.Lexeme.TheVariants.{Word, Logical}
use Rattle.gil_syntax.specs.Pure.{PureExpr, literal, name, logical, list_of, unary_of, binary_of, PureExprs, no_exprs, expr_and}
use Rattle.gil_grammar.specs.declared.positions.Position.{Position}
use Rattle.gil_grammar.specs.declared.positions.Position.TheVariants.{Assertion}
use Rattle.gil_grammar.specs.Lists.{SpellsSeparated}
use Rattle.gil_grammar.specs.Vocabulary.{opening_parenthesis, closing_parenthesis, opening_bracket, closing_bracket, comma, literal_lexeme, unary_word, before_operands, between_operands, IsNameAt}

-- The lexemes from begin with the expression, which stands at this position, and rest follows:
--   literal   name   logical name (in assertions alone)   [e, ..]   op(e)   nth(e, e)   (e op e)
abbrev mutual
  pub SpellsExpr : Position → PureExpr → List Lexeme → List Lexeme → Type 0
  SpellsExpr position (literal v) from rest = (lexeme : Lexeme) × (literal_lexeme v ≡ Some lexeme) × (from ≡ lexeme ∷ rest)
  SpellsExpr position (name x) from rest = (lexeme : Lexeme) × IsNameAt position x lexeme × (from ≡ lexeme ∷ rest)
  SpellsExpr position (logical x) from rest = (position ≡ Assertion) × (from ≡ Logical x ∷ rest)
  SpellsExpr position (list_of es) from rest =
      (inner : List Lexeme) × (from ≡ opening_bracket ∷ inner) × SpellsElements position es inner (closing_bracket ∷ rest)
  SpellsExpr position (unary_of op e) from rest =
      (inner : List Lexeme) × (from ≡ Word (unary_word op) ∷ opening_parenthesis ∷ inner)
      × SpellsExpr position e inner (closing_parenthesis ∷ rest)
  SpellsExpr position (binary_of op d e) from rest =
      (left right : List Lexeme) × (from ≡ before_operands op left)
      × SpellsExpr position d left (between_operands op ∷ right) × SpellsExpr position e right (closing_parenthesis ∷ rest)

  -- the elements of a list, with commas between them
  pub SpellsElements : Position → PureExprs → List Lexeme → List Lexeme → Type 0
  SpellsElements position no_exprs from rest = from ≡ rest
  SpellsElements position (expr_and e es) from rest =
      (after : List Lexeme) × SpellsExpr position e from after × SpellsMoreElements position es after rest

  -- elements, each behind a comma
  pub SpellsMoreElements : Position → PureExprs → List Lexeme → List Lexeme → Type 0
  SpellsMoreElements position no_exprs from rest = from ≡ rest
  SpellsMoreElements position (expr_and e es) from rest =
      (inner after : List Lexeme) × (from ≡ comma ∷ inner) × SpellsExpr position e inner after × SpellsMoreElements position es after rest

-- any number of expressions, with commas between them
abbrev pub SpellsExprs : Position → List PureExpr → List Lexeme → List Lexeme → Type 0
SpellsExprs position es from rest = SpellsSeparated (SpellsExpr position) comma es from rest
