-- What a cursor's tokens stand for, token by token.
use Rattle.std.proofs.Common.{◌≡◌, ◌-◌, ◌≤◌, ℕ, List, [], ◌∷◌, ◌++◌, length, Some, refl, ap, arith, get_or, length-append}
use Rattle.std.proofs.Math.Seq.{take-append_seam}
use Rattle.std.specs.List.{All, slice_range}
use Rattle.std.proofs.lemmas.List.Elements.{All-head, All-tail}
use Rattle.gil_lexer.specs.Bytes.{quote}
use Rattle.gil_lexer.specs.Spelling.{Spells, characters_bytes}
use Rattle.gil_lexer.specs.Texts.{IsSlice}
use Rattle.gil_lexer.specs.declared.forms.Form.{Form}
use Rattle.gil_lexer.specs.declared.forms.Form.TheVariants as forms
use Rattle.gil_lexer.specs.declared.forms.Token.{Token}
use Rattle.gil_lexer.proofs.NumberLemmas.{number_value_reads}
use Rattle.gil_lexer.proofs.LiteralLaws.{unescaped_characters}
use Rattle.gil_lexemes.specs.Lexemes.{StandsFor, StandForAll}
use Rattle.gil_lexemes.specs.declared.standing.Lexeme.{Lexeme}
use Rattle.gil_lexemes.specs.Standing.{lexeme_of, lexemes_of, FirstStands}
use Rattle.gil_lexemes.specs.Reading.{behind, form_of, first_form}
use Rattle.gil_lexemes.proofs.StandingLemmas.{stands_once}

pub form_of-lexeme_of : (form : Form) (text : List ℕ) → form_of (lexeme_of form text) ≡ form
unfolding lexeme_of
form_of-lexeme_of forms.Name text = refl
form_of-lexeme_of (forms.Word word) text = refl
form_of-lexeme_of forms.Logical text = refl
form_of-lexeme_of forms.Procedure text = refl
form_of-lexeme_of forms.Number text = refl
form_of-lexeme_of forms.Text text = refl
form_of-lexeme_of (forms.Sign sign) text = refl

-- the bytes between the quotes
between : (literal characters : List ℕ) → literal ≡ quote ∷ (characters ++ quote ∷ []) → slice_range literal 1 (length literal - 1) ≡ characters
between literal characters is =
    let count : length literal - 1 - 1 ≡ length characters = omega (arith, ap length is, length-append characters (quote ∷ [])) in
    rw (count, is) (take-append_seam characters (quote ∷ []))

-- a token that spells what its form asks for stands for its lexeme
pub stands : (form : Form) (text : List ℕ) → Spells form text → StandsFor form text (lexeme_of form text)
unfolding lexeme_of
stands forms.Name text h = refl
stands (forms.Word word) text h = refl
stands forms.Logical text h = refl
stands forms.Procedure text (name, is_name, is) = rw is (name, refl, refl)
stands forms.Number text (n, fits, spells) = (n, spells, rw (number_value_reads text n fits spells) refl)
stands forms.Text text (characters, (are, is)) = (characters, (are, is), rw (between text (characters_bytes characters) is, unescaped_characters characters are) refl)
stands (forms.Sign sign) text h = refl

pub stand_all : (bytes : List ℕ) (tokens : List Token) → All (IsSlice bytes) tokens → StandForAll bytes tokens (lexemes_of bytes tokens)
stand_all bytes [] h = tt
stand_all bytes (t ∷ tokens) h =
    (stands t.form _ (All-head (IsSlice bytes) t tokens h).spelled, stand_all bytes tokens (All-tail (IsSlice bytes) t tokens h))

-- the form of the first token
pub first_form_is : (bytes : List ℕ) (tokens : List Token) (d : Token) → 1 ≤ length tokens → first_form (lexemes_of bytes tokens) ≡ Some (get_or tokens 0 d).form
first_form_is bytes [] d some = absurd (omega arith)
first_form_is bytes (t ∷ tokens) d some = ap Some (form_of-lexeme_of t.form _)

pub first_stands : (bytes : List ℕ) (tokens : List Token) (d : Token) → All (IsSlice bytes) tokens → 1 ≤ length tokens
    → FirstStands (slice_range bytes (get_or tokens 0 d).from (get_or tokens 0 d).to) (lexemes_of bytes tokens)
first_stands bytes [] d h some = absurd (omega arith)
first_stands bytes (t ∷ tokens) d h some =
    let spelled = (All-head (IsSlice bytes) t tokens h).spelled in
    rw (form_of-lexeme_of t.form (slice_range bytes t.from t.to)) (spelled, stands t.form _ spelled)

-- what the first token is spelled like, by its form
pub first_spells : (form : Form) (text : List ℕ) (ls : List Lexeme) → first_form ls ≡ Some form → FirstStands text ls → Spells form text
first_spells form text [] e h = absurd cc
first_spells form text (l ∷ ls) e h = let same : form_of l ≡ form = cc in rw same at h.0

-- what the first token stands for is the first lexeme
pub first_is : (form : Form) (text : List ℕ) (ls : List Lexeme) (lexeme : Lexeme) → first_form ls ≡ Some form → FirstStands text ls → StandsFor form text lexeme → ls ≡ lexeme ∷ behind ls
first_is form text [] lexeme e h s = absurd cc
first_is form text (l ∷ ls) lexeme e h s =
    let same : form_of l ≡ form = cc in
    let once : StandsFor form text l = rw same at h.1 in
    ap (λ k. k ∷ ls) (stands_once form text l lexeme once s)
