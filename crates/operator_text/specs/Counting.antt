-- How many operators there are, by the forms of tokens.
use Rattle.std.specs.Prelude.{ℕ, ◌+◌}
use Rattle.gil_lexer.specs.declared.forms.Form.{Form}
use Rattle.gil_lexer.specs.declared.forms.Form.TheVariants.{Sign}
use Rattle.gil_lexer.specs.declared.signs.Sign.TheVariants.{EqualEqual, NotEqual, LessEqual, GreaterEqual, AndAnd, OrOr, Plus, Minus, Star, Slash, Percent, Less, Greater, Bang, Ampersand, Dot, LeftBracket, Semicolon, LeftBrace, RightBrace}

abbrev pub operators_by : ℕ → Form → ℕ
operators_by count (Sign EqualEqual) = count + 1
operators_by count (Sign NotEqual) = count + 1
operators_by count (Sign LessEqual) = count + 1
operators_by count (Sign GreaterEqual) = count + 1
operators_by count (Sign AndAnd) = count + 1
operators_by count (Sign OrOr) = count + 1
operators_by count (Sign Plus) = count + 1
operators_by count (Sign Minus) = count + 1
operators_by count (Sign Star) = count + 1
operators_by count (Sign Slash) = count + 1
operators_by count (Sign Percent) = count + 1
operators_by count (Sign Less) = count + 1
operators_by count (Sign Greater) = count + 1
operators_by count (Sign Bang) = count + 1
operators_by count (Sign Ampersand) = count + 1
operators_by count (Sign Dot) = count + 1
operators_by count (Sign LeftBracket) = count + 1
operators_by count (Sign Semicolon) = 0
operators_by count (Sign LeftBrace) = 0
operators_by count (Sign RightBrace) = 0
operators_by count _ = count
