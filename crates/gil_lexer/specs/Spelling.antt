-- What bytes spell, token by token.
use Rattle.std.specs.Prelude.{ℕ, ℤ, pos, neg_ℤ, Bool, true, false, not, ◌≡◌, ◌≢◌, ◌≤◌, ◌⊎◌, ◌||◌, ◌==◌, nat_eq, if◌then◌else◌, List, [], ◌∷◌, ◌++◌, length, Option, Some, None, IsTrue, FitsSigned}
use Rattle.std.specs.Bool.{IsFalse}
use Rattle.std.specs.Int.{w64}
use Rattle.std.specs.List.{starts_with, list_all, flat_map}
use Rattle.std.specs.Str.Parse.{digits_value}
use Rattle.std.specs.Char.{is_ascii_digit}
use Rattle.gil_lexer.specs.Bytes.{line_feed, quote, hash, minus, at_sign, backslash, letter_n, is_name_start, is_name_byte, is_printable, begins, begins_comment, begins_negative}
use Rattle.gil_lexer.specs.Words.{word_bytes}
use Rattle.gil_lexer.specs.Signs.{sign_bytes}
use Rattle.gil_lexer.specs.declared.words.Word.{Word}
use Rattle.gil_lexer.specs.declared.signs.Sign.{Sign}
use Rattle.gil_lexer.specs.declared.signs.Sign.TheVariants as signs
use Rattle.gil_lexer.specs.declared.forms.Form.{Form}
use Rattle.gil_lexer.specs.declared.forms.Form.TheVariants as forms

-- a letter or `_`, then letters, digits, `_` and `$`
abbrev pub IsName : List ℕ → Type 0
IsName text = IsTrue (begins is_name_start text) × IsTrue (list_all is_name_byte text)

-- a name with its mark, `#` or `@`, before it
abbrev pub IsMarkedName : ℕ → List ℕ → Type 0
IsMarkedName mark text = (name : List ℕ) × IsName name × (text ≡ mark ∷ name)

-- decimal digits, at least one
abbrev pub AreDigits : List ℕ → Type 0
AreDigits digits = IsTrue (begins is_ascii_digit digits) × IsTrue (list_all is_ascii_digit digits)

-- The text is z in decimal digits, with a `-` before them or without. Leading zeros are allowed.
abbrev pub SpellsNumber : List ℕ → ℤ → Type 0
SpellsNumber text z =
    (digits : List ℕ) × AreDigits digits
    × (((text ≡ digits) × (z ≡ pos (digits_value 10 digits))) ⊎ ((text ≡ minus ∷ digits) × (z ≡ neg_ℤ (pos (digits_value 10 digits)))))

-- a number of 64 bits, from -2^63 to 2^63 - 1
abbrev pub IsNumber : List ℕ → Type 0
IsNumber text = (z : ℤ) × FitsSigned w64 z × SpellsNumber text z

-- the characters of a text: 0x20 to 0x7E, and LF
abbrev pub AreCharacters : List ℕ → Type 0
AreCharacters cs = IsTrue (list_all (λ c. is_printable c || c == line_feed) cs)

-- A character between quotes: `"`, the backslash and LF are written as escapes, and the others stand for themselves.
abbrev pub character_bytes : ℕ → List ℕ
character_bytes c =
    if c == quote then backslash ∷ quote ∷ []
    else (if c == backslash then backslash ∷ backslash ∷ []
    else (if c == line_feed then backslash ∷ letter_n ∷ []
    else c ∷ []))

-- the characters between quotes
abbrev pub characters_bytes : List ℕ → List ℕ
characters_bytes cs = flat_map character_bytes cs

-- the text is the literal of these characters
abbrev pub SpellsText : List ℕ → List ℕ → Type 0
SpellsText text cs = AreCharacters cs × (text ≡ quote ∷ characters_bytes cs ++ quote ∷ [])

-- What the bytes of a token of each form are.
abbrev pub Spells : Form → List ℕ → Type 0
Spells forms.Name text = IsName text × ((word : Word) → word_bytes word ≢ text)
Spells (forms.Word word) text = word_bytes word ≡ text
Spells forms.Logical text = IsMarkedName hash text
Spells forms.Procedure text = IsMarkedName at_sign text
Spells forms.Number text = IsNumber text
Spells forms.Text text = (cs : List ℕ) × SpellsText text cs
Spells (forms.Sign sign) text = sign_bytes sign ≡ text

-- a closing bracket of an expression
abbrev pub closes : Sign → Bool
closes signs.RightParenthesis = true
closes signs.RightBracket = true
closes _ = false

-- Whether a token of this form ends an operand, so that a `-` behind it is the sign, also before a digit.
abbrev pub ends_operand : Form → Bool
ends_operand forms.Name = true
ends_operand (forms.Word word) = false
ends_operand forms.Logical = true
ends_operand forms.Procedure = false
ends_operand forms.Number = true
ends_operand forms.Text = true
ends_operand (forms.Sign sign) = closes sign

-- Whether a `-` before a digit belongs to the number, behind this token or at the text's start.
abbrev pub takes_minus : Option Form → Bool
takes_minus None = true
takes_minus (Some form) = not (ends_operand form)

-- A `-` before a digit belongs to the number there, if the bytes begin so.
abbrev pub MayBeginNumber : Option Form → List ℕ → Type 0
MayBeginNumber before bytes = IsTrue (begins_negative bytes) → IsTrue (takes_minus before)

-- of the signs that the bytes begin with, none is longer
abbrev pub IsLongestSign : Sign → List ℕ → Type 0
IsLongestSign sign bytes =
    (other : Sign) → IsTrue (starts_with nat_eq bytes (sign_bytes other)) → length (sign_bytes other) ≤ length (sign_bytes sign)

-- The token ends where it must: behind one of the form before, a token of this form at the front of the bytes, with
-- rest behind it, is no part of a longer one. A name takes every name byte and a number every digit; a sign is the
-- longest, begins no comment, and is no `-` that belongs to a number.
abbrev pub Ends : Option Form → Form → List ℕ → List ℕ → Type 0
Ends before forms.Name bytes rest = IsFalse (begins is_name_byte rest)
Ends before (forms.Word word) bytes rest = IsFalse (begins is_name_byte rest)
Ends before forms.Logical bytes rest = IsFalse (begins is_name_byte rest)
Ends before forms.Procedure bytes rest = IsFalse (begins is_name_byte rest)
Ends before forms.Number bytes rest = IsFalse (begins is_ascii_digit rest) × MayBeginNumber before bytes
Ends before forms.Text bytes rest = Unit {0}
Ends before (forms.Sign sign) bytes rest =
    IsLongestSign sign bytes × IsFalse (begins_comment bytes) × (IsTrue (takes_minus before) → IsFalse (begins_negative bytes))

-- Behind a token of the form before, or at the text's start where that is None, the bytes text are a token of this
-- form, and rest follows.
abbrev pub IsToken : Option Form → Form → List ℕ → List ℕ → Type 0
IsToken before form text rest = Spells form text × Ends before form (text ++ rest) rest
