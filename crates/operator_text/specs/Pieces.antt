-- The lexemes of expressions as statements have them: before `;`, and in brackets.
use Rattle.std.specs.Prelude.{◌≡◌, List, ◌∷◌}
use Rattle.gil_lexemes.specs.declared.standing.Lexeme.{Lexeme}
use Rattle.gil_grammar.specs.Lists.{SpellsSeparated}
use Rattle.gil_grammar.specs.Vocabulary.{opening_parenthesis, closing_parenthesis, comma, semicolon}
use Rattle.source_operators.specs.Pure.{PureExpression}
use Rattle.operator_text.specs.Grammar.{SpellsExpression}
use Rattle.operator_text.specs.Signs.{Signs}

module _ {P J : Type 0} (g : Signs P J) where
  -- where any operator may stand
  abbrev pub SpellsWhole : PureExpression P J → List Lexeme → List Lexeme → Type 0
  SpellsWhole e from rest = SpellsExpression g 0 e from rest

  -- e;
  abbrev pub SpellsValue : PureExpression P J → List Lexeme → List Lexeme → Type 0
  SpellsValue e from rest = SpellsWhole e from (semicolon ∷ rest)

  -- (e);
  abbrev pub SpellsArgument : PureExpression P J → List Lexeme → List Lexeme → Type 0
  SpellsArgument e from rest =
      (inner : List Lexeme) × (from ≡ opening_parenthesis ∷ inner) × SpellsWhole e inner (closing_parenthesis ∷ semicolon ∷ rest)

  -- (d, e);
  abbrev pub SpellsPair : PureExpression P J → PureExpression P J → List Lexeme → List Lexeme → Type 0
  SpellsPair d e from rest =
      (first second : List Lexeme) × (from ≡ opening_parenthesis ∷ first) × SpellsWhole d first (comma ∷ second)
      × SpellsWhole e second (closing_parenthesis ∷ semicolon ∷ rest)

  -- e, ..);   behind `(`
  abbrev pub SpellsArguments : List (PureExpression P J) → List Lexeme → List Lexeme → Type 0
  SpellsArguments es from rest = SpellsSeparated SpellsWhole comma es from (closing_parenthesis ∷ semicolon ∷ rest)
