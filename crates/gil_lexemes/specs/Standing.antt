-- The lexeme that a token stands for, as a function.
use Rattle.std.specs.Prelude.{ℕ, pos, ◌-◌, false, List, [], ◌∷◌, map, length, unwrap_or}
use Rattle.std.specs.List.{slice_range}
use Rattle.gil_lexer.specs.Reading.{number_value, unescaped}
use Rattle.gil_lexer.specs.declared.forms.Form.{Form}
use Rattle.gil_lexer.specs.declared.forms.Form.TheVariants as forms
use Rattle.gil_lexer.specs.declared.forms.Token.{Token}
use Rattle.gil_lexer.specs.Spelling.{Spells}
use Rattle.gil_lexemes.specs.Lexemes.{StandsFor}
use Rattle.gil_lexemes.specs.Reading.{behind, form_of}
use Rattle.gil_lexemes.specs.declared.standing.Lexeme.{Lexeme}
use Rattle.gil_lexemes.specs.declared.standing.Lexeme.TheVariants.{Name, Word, Logical, Procedure, Number, Literal, Sign}

-- what a token of a form stands for, which is spelled so
unfoldable pub lexeme_of : Form → List ℕ → Lexeme
lexeme_of forms.Name text = Name text
lexeme_of (forms.Word word) text = Word word
lexeme_of forms.Logical text = Logical text
lexeme_of forms.Procedure text = Procedure (behind text)
lexeme_of forms.Number text = Number (unwrap_or (number_value text) (pos 0))
lexeme_of forms.Text text = Literal (unwrap_or (unescaped false (slice_range text 1 (length text - 1))) [])
lexeme_of (forms.Sign sign) text = Sign sign

-- what the tokens of a text stand for
abbrev pub lexemes_of : List ℕ → List Token → List Lexeme
lexemes_of bytes tokens = map (λ t. lexeme_of t.form (slice_range bytes t.from t.to)) tokens

-- the text is that of the token that stands for the first lexeme, if there is one
abbrev pub FirstStands : List ℕ → List Lexeme → Type 0
FirstStands text [] = Unit {0}
FirstStands text (lexeme ∷ rest) = Spells (form_of lexeme) text × StandsFor (form_of lexeme) text lexeme
