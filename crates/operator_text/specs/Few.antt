-- How many operators stand in a statement of a text, and how deep its lexemes nest.
use Rattle.std.specs.Prelude.{ℕ, ◌+◌, ◌≤◌, List, [], ◌∷◌}
use Rattle.gil_lexer.specs.declared.signs.Sign.TheVariants.{EqualEqual, NotEqual, LessEqual, GreaterEqual, AndAnd, OrOr, Plus, Minus, Star, Slash, Percent, Less, Greater, Bang, Ampersand, Dot, LeftBracket, Semicolon, LeftBrace, RightBrace}
use Rattle.gil_lexemes.specs.declared.standing.Lexeme.{Lexeme}
use Rattle.gil_lexemes.specs.declared.standing.Lexeme.TheVariants.{Sign}
use Rattle.gil_grammar.specs.Nesting.{IsNested}

-- the most operators that may stand in a statement
abbrev pub most_operators : ℕ
most_operators = 64

-- How many operators there are up to a lexeme since the last `;`, `{` or `}`, where there were so many before it.
abbrev pub operators_behind : ℕ → Lexeme → ℕ
operators_behind count (Sign EqualEqual) = count + 1
operators_behind count (Sign NotEqual) = count + 1
operators_behind count (Sign LessEqual) = count + 1
operators_behind count (Sign GreaterEqual) = count + 1
operators_behind count (Sign AndAnd) = count + 1
operators_behind count (Sign OrOr) = count + 1
operators_behind count (Sign Plus) = count + 1
operators_behind count (Sign Minus) = count + 1
operators_behind count (Sign Star) = count + 1
operators_behind count (Sign Slash) = count + 1
operators_behind count (Sign Percent) = count + 1
operators_behind count (Sign Less) = count + 1
operators_behind count (Sign Greater) = count + 1
operators_behind count (Sign Bang) = count + 1
operators_behind count (Sign Ampersand) = count + 1
operators_behind count (Sign Dot) = count + 1
operators_behind count (Sign LeftBracket) = count + 1
operators_behind count (Sign Semicolon) = 0
operators_behind count (Sign LeftBrace) = 0
operators_behind count (Sign RightBrace) = 0
operators_behind count _ = count

-- in no statement of these lexemes are more operators than may be, where so many were before them
abbrev pub AreFewFrom : ℕ → List Lexeme → Type 0
AreFewFrom count [] = Unit {0}
AreFewFrom count (lexeme ∷ lexemes) = (operators_behind count lexeme ≤ most_operators) × AreFewFrom (operators_behind count lexeme) lexemes

-- no more brackets are open than may be, and no statement has more operators
abbrev pub IsNestedWithFew : List Lexeme → Type 0
IsNestedWithFew lexemes = IsNested lexemes × AreFewFrom 0 lexemes
