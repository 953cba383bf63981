-- Reading lexemes from left to right: what a reader's functions answer.
use Rattle.std.specs.Prelude.{◌≡◌, ℕ, ℤ, Bool, false, List, [], ◌∷◌, Option, Some, None, Result, Ok, Err, if◌then◌else◌}
use denote.Enum.Bare.{sameb}
use Rattle.gil_lexer.specs.declared.forms.Form.{Form}
use Rattle.gil_lexer.specs.declared.forms.Form.TheVariants as forms
use Rattle.gil_lexer.specs.declared.signs.Sign.{Sign}
use Rattle.gil_lexer.specs.declared.words.Word.{Word}
use Rattle.gil_lexer.specs.contracts.signs.Sign.{the_type as sign_type}
use Rattle.gil_lexer.specs.contracts.words.Word.{the_type as word_type}
use Rattle.gil_lexemes.specs.declared.standing.Lexeme.{Lexeme}
use Rattle.gil_lexemes.specs.declared.standing.Lexeme.TheVariants as lexemes
use Rattle.gil_lexemes.specs.declared.stops.Stop.{Stop}
use Rattle.gil_lexemes.specs.declared.stops.Stop.TheVariants as stops

-- what is read from the front of lexemes, and those behind it
abbrev pub Reading : Type 0 → Type 0
Reading X = Option (X × List Lexeme)

-- one step after another
infixl 10 ◌>>=◌
abbrev pub ◌>>=◌ : {A B : Type 0} → Option A → (A → Option B) → Option B
(Some x) >>= f = f x
None >>= f = None

-- What a function returned, seen by view, is what reading gives, unless memory ran out.
abbrev pub Fails : {Y : Type 0} → Stop → Option Y → Type 0
Fails stops.Memory read = Unit {0}
Fails (stops.Syntax left) read = read ≡ None

abbrev pub Gives : {X Y : Type 0} → (X → Y) → Result X Stop → Option Y → Type 0
Gives view (Ok x) read = read ≡ Some (view x)
Gives view (Err stop) read = Fails stop read

-- the form of the token that stands for a lexeme
abbrev pub form_of : Lexeme → Form
form_of (lexemes.Name x) = forms.Name
form_of (lexemes.Word word) = forms.Word word
form_of (lexemes.Logical x) = forms.Logical
form_of (lexemes.Procedure f) = forms.Procedure
form_of (lexemes.Number n) = forms.Number
form_of (lexemes.Literal characters) = forms.Text
form_of (lexemes.Sign sign) = forms.Sign sign

-- all but the first
abbrev pub behind : {X : Type 0} → List X → List X
behind [] = []
behind (x ∷ xs) = xs

abbrev pub first_form : List Lexeme → Option Form
first_form [] = None
first_form (lexeme ∷ rest) = Some (form_of lexeme)

-- ---- one lexeme

-- whether a token of this form is the sign
unfoldable pub same_sign : Sign → Sign → Bool
same_sign found sign = sameb sign_type found sign

abbrev pub is_sign : Sign → Option Form → Bool
is_sign sign (Some (forms.Sign found)) = same_sign found sign
is_sign sign _ = false

-- whether a token of this form is the reserved word
unfoldable pub same_word : Word → Word → Bool
same_word found word = sameb word_type found word

abbrev pub is_word : Word → Option Form → Bool
is_word word (Some (forms.Word found)) = same_word found word
is_word word _ = false

-- the lexemes behind a sign
abbrev pub sign_at : Sign → List Lexeme → Option (List Lexeme)
sign_at sign ls = if is_sign sign (first_form ls) then Some (behind ls) else None

-- the lexemes behind a reserved word
abbrev pub word_at : Word → List Lexeme → Option (List Lexeme)
word_at word ls = if is_word word (first_form ls) then Some (behind ls) else None

abbrev pub name_at : List Lexeme → Reading (List ℕ)
name_at (lexemes.Name x ∷ rest) = Some (x, rest)
name_at _ = None

abbrev pub logical_at : List Lexeme → Reading (List ℕ)
logical_at (lexemes.Logical x ∷ rest) = Some (x, rest)
logical_at _ = None

abbrev pub procedure_at : List Lexeme → Reading (List ℕ)
procedure_at (lexemes.Procedure f ∷ rest) = Some (f, rest)
procedure_at _ = None

abbrev pub number_at : List Lexeme → Reading ℤ
number_at (lexemes.Number n ∷ rest) = Some (n, rest)
number_at _ = None

-- the characters of a text literal
abbrev pub characters_at : List Lexeme → Reading (List ℕ)
characters_at (lexemes.Literal characters ∷ rest) = Some (characters, rest)
characters_at _ = None
