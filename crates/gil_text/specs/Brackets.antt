-- How many brackets are open, by the forms of tokens.
use Rattle.std.specs.Prelude.{ℕ, ◌+◌, ◌-◌}
use Rattle.gil_lexer.specs.declared.forms.Form.{Form}
use Rattle.gil_lexer.specs.declared.forms.Form.TheVariants.{Sign}
use Rattle.gil_lexer.specs.declared.signs.Sign.TheVariants.{LeftParenthesis, RightParenthesis, LeftBracket, RightBracket, LeftBrace, RightBrace}

abbrev pub open_by : ℕ → Form → ℕ
open_by count (Sign LeftParenthesis) = count + 1
open_by count (Sign LeftBracket) = count + 1
open_by count (Sign LeftBrace) = count + 1
open_by count (Sign RightParenthesis) = count - 1
open_by count (Sign RightBracket) = count - 1
open_by count (Sign RightBrace) = count - 1
open_by count _ = count
