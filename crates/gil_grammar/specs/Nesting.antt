-- How many brackets are open in a text.
use Rattle.std.specs.Prelude.{ℕ, ◌+◌, ◌-◌, ◌≤◌, List, [], ◌∷◌}
use Rattle.gil_lexer.specs.declared.signs.Sign.TheVariants.{LeftParenthesis, RightParenthesis, LeftBracket, RightBracket, LeftBrace, RightBrace}
use Rattle.gil_lexemes.specs.declared.standing.Lexeme.{Lexeme}
use Rattle.gil_lexemes.specs.declared.standing.Lexeme.TheVariants.{Sign}

-- the most brackets that may be open
abbrev pub most_open : ℕ
most_open = 64

-- How many brackets are open behind a lexeme, where so many were before it. A closing bracket closes one open bracket of
-- any form, and none where none is open.
abbrev pub open_behind : ℕ → Lexeme → ℕ
open_behind count (Sign LeftParenthesis) = count + 1
open_behind count (Sign LeftBracket) = count + 1
open_behind count (Sign LeftBrace) = count + 1
open_behind count (Sign RightParenthesis) = count - 1
open_behind count (Sign RightBracket) = count - 1
open_behind count (Sign RightBrace) = count - 1
open_behind count _ = count

-- behind none of these lexemes more brackets are open than may be, where so many were before them
abbrev pub IsNestedFrom : ℕ → List Lexeme → Type 0
IsNestedFrom count [] = Unit {0}
IsNestedFrom count (lexeme ∷ lexemes) = (open_behind count lexeme ≤ most_open) × IsNestedFrom (open_behind count lexeme) lexemes

abbrev pub IsNested : List Lexeme → Type 0
IsNested lexemes = IsNestedFrom 0 lexemes
