-- Why a text isn't all tokens and blanks.
use Rattle.std.specs.Prelude.{ℕ, ℤ, ◌≡◌, ◌≢◌, ◌+◌, ◌==◌, nat_eq, List, [], ◌∷◌, ◌++◌, length, Option, FitsSigned}
use Rattle.std.specs.Bool.{IsFalse}
use Rattle.std.specs.Int.{w64}
use Rattle.std.specs.List.{starts_with}
use Rattle.std.specs.Char.{is_ascii_digit}
use Rattle.gil_lexer.specs.Bytes.{quote, hash, at_sign, backslash, is_blank, is_name_start, is_printable, is_escape, begins}
use Rattle.gil_lexer.specs.Spelling.{AreCharacters, characters_bytes, SpellsNumber, MayBeginNumber}
use Rattle.gil_lexer.specs.Signs.{sign_bytes}
use Rattle.gil_lexer.specs.Texts.{Place, start, Lead, AreBlanks}
use Rattle.gil_lexer.specs.declared.signs.Sign.{Sign}
use Rattle.gil_lexer.specs.declared.forms.Form.{Form}
use Rattle.gil_lexer.specs.declared.forms.Token.{Token}
use Rattle.gil_lexer.specs.declared.faults.LexKind.{LexKind}
use Rattle.gil_lexer.specs.declared.faults.LexKind.TheVariants as kinds

-- There is a byte, and it begins no blank, name, number, text literal or sign; a `#` or `@` has no name behind it.
pub record BeginsNoToken (bytes : List ℕ) : Type 0 where
  pub some : bytes ≢ []
  pub blank : IsFalse (begins is_blank bytes)
  pub name : IsFalse (begins is_name_start bytes)
  pub number : IsFalse (begins is_ascii_digit bytes)
  pub text : IsFalse (begins (λ b. b == quote) bytes)
  pub logical : (after : List ℕ) → bytes ≡ hash ∷ after → IsFalse (begins is_name_start after)
  pub procedure : (after : List ℕ) → bytes ≡ at_sign ∷ after → IsFalse (begins is_name_start after)
  pub sign : (sign : Sign) → IsFalse (starts_with nat_eq bytes (sign_bytes sign))

-- A quote and characters, and then the text's end or a byte outside 0x20 to 0x7E, such as a line feed or a tab: the literal is
-- left open there, whatever follows.
abbrev pub IsOpenText : List ℕ → Type 0
IsOpenText bytes =
    (cs after : List ℕ) × AreCharacters cs × (bytes ≡ quote ∷ (characters_bytes cs ++ after)) × IsFalse (begins is_printable after)

-- a quote and characters, behind which stands a backslash that begins no escape
abbrev pub IsFaultyEscape : List ℕ → Type 0
IsFaultyEscape bytes =
    (cs after : List ℕ) × AreCharacters cs × (bytes ≡ quote ∷ (characters_bytes cs ++ backslash ∷ after)) × IsFalse (begins is_escape after)

-- all digits of a number that doesn't fit 64 bits
abbrev pub IsWideNumber : Option Form → List ℕ → Type 0
IsWideNumber before bytes =
    (text after : List ℕ) × (z : ℤ) × (bytes ≡ text ++ after) × SpellsNumber text z × IsFalse (begins is_ascii_digit after)
    × MayBeginNumber before bytes × (FitsSigned w64 z → ⊥)

-- the fault that stands at the front of the bytes, behind a token of the form before
abbrev pub IsFault : LexKind → Option Form → List ℕ → Type 0
IsFault kinds.Byte before bytes = BeginsNoToken bytes
IsFault kinds.Open before bytes = IsOpenText bytes
IsFault kinds.Escape before bytes = IsFaultyEscape bytes
IsFault kinds.Wide before bytes = IsWideNumber before bytes
IsFault kinds.Memory before bytes = Unit {0}

-- The first bytes of the text, at of them, are tokens and blanks, and this fault stands behind them.
pub record StopsAt (kind : LexKind) (at : ℕ) (bytes : List ℕ) : Type 0 where
  pub tokens : List Token
  pub place : Place
  pub gap : List ℕ
  pub rest : List ℕ
  pub lead : Lead (start bytes) tokens place
  pub behind : place.rest ≡ gap ++ rest
  pub blanks : AreBlanks gap
  pub reached : at ≡ place.at + length gap
  pub fault : IsFault kind place.before rest
