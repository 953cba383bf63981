-- What tokens stand for.
use Rattle.std.specs.Prelude.{◌≡◌, ℕ, ℤ, List, [], ◌∷◌}
use Rattle.std.specs.List.{slice_range}
use Rattle.gil_lexer.specs.Bytes.{at_sign}
use Rattle.gil_lexer.specs.Spelling.{SpellsNumber, SpellsText}
use Rattle.gil_lexer.specs.declared.forms.Form.{Form}
use Rattle.gil_lexer.specs.declared.forms.Form.TheVariants as forms
use Rattle.gil_lexer.specs.declared.forms.Token.{Token}
use Rattle.gil_lexemes.specs.declared.standing.Lexeme.{Lexeme}
use Rattle.gil_lexemes.specs.declared.standing.Lexeme.TheVariants.{Name, Word, Logical, Procedure, Number, Literal, Sign}

-- A name stands for its characters, a logical name for its characters with the `#`, a procedure literal for the name
-- behind its `@`, a number for the number that its digits spell, a text literal for the characters between its quotes,
-- and a reserved word or a sign for itself.
abbrev pub StandsFor : Form → List ℕ → Lexeme → Type 0
StandsFor forms.Name text lexeme = lexeme ≡ Name text
StandsFor (forms.Word word) text lexeme = lexeme ≡ Word word
StandsFor forms.Logical text lexeme = lexeme ≡ Logical text
StandsFor forms.Procedure text lexeme = (name : List ℕ) × (text ≡ at_sign ∷ name) × (lexeme ≡ Procedure name)
StandsFor forms.Number text lexeme = (n : ℤ) × SpellsNumber text n × (lexeme ≡ Number n)
StandsFor forms.Text text lexeme = (characters : List ℕ) × SpellsText text characters × (lexeme ≡ Literal characters)
StandsFor (forms.Sign sign) text lexeme = lexeme ≡ Sign sign

-- each token of the text stands for the lexeme at its place
abbrev pub StandForAll : List ℕ → List Token → List Lexeme → Type 0
StandForAll bytes [] [] = Unit {0}
StandForAll bytes (token ∷ tokens) (lexeme ∷ lexemes) =
    StandsFor token.form (slice_range bytes token.from token.to) lexeme × StandForAll bytes tokens lexemes
StandForAll bytes _ _ = ⊥
