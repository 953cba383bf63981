-- The classes of bytes, as ASCII codes.
use Rattle.std.specs.Prelude.{ℕ, Bool, false, not, ◌||◌, ◌&&◌, ◌==◌, nat_le, List, [], ◌∷◌, ◌≡◌, ◌≤◌, ◌-◌, length, slice_index}
use Rattle.std.specs.Char.{is_ascii_alphabetic, is_ascii_digit}

abbrev pub line_feed : ℕ
line_feed = 10

abbrev pub quote : ℕ
quote = 34

abbrev pub hash : ℕ
hash = 35

abbrev pub dollar : ℕ
dollar = 36

abbrev pub minus : ℕ
minus = 45

abbrev pub slash : ℕ
slash = 47

abbrev pub at_sign : ℕ
at_sign = 64

abbrev pub backslash : ℕ
backslash = 92

abbrev pub underscore : ℕ
underscore = 95

abbrev pub letter_n : ℕ
letter_n = 110

-- space, tab, CR and LF
abbrev pub is_blank : ℕ → Bool
is_blank b = b == 32 || b == 9 || b == 13 || b == 10

-- a letter or `_`
abbrev pub is_name_start : ℕ → Bool
is_name_start b = is_ascii_alphabetic b || b == underscore

-- a letter, a digit, `_` or `$`
abbrev pub is_name_byte : ℕ → Bool
is_name_byte b = is_name_start b || is_ascii_digit b || b == dollar

-- 0x20 to 0x7E
abbrev pub is_printable : ℕ → Bool
is_printable b = nat_le 32 b && nat_le b 126

-- what stands for itself in a text literal
abbrev pub is_plain : ℕ → Bool
is_plain b = is_printable b && not (b == quote) && not (b == backslash)

-- what may follow the backslash of an escape
abbrev pub is_escape : ℕ → Bool
is_escape b = b == quote || b == backslash || b == letter_n

-- whether the bytes begin with one of the class
abbrev pub begins : (ℕ → Bool) → List ℕ → Bool
begins class [] = false
begins class (b ∷ bs) = class b

-- whether the bytes begin with `//`
abbrev pub begins_comment : List ℕ → Bool
begins_comment [] = false
begins_comment (b ∷ bs) = b == slash && begins (λ c. c == slash) bs

-- whether the bytes begin with a `-` and a digit
abbrev pub begins_negative : List ℕ → Bool
begins_negative [] = false
begins_negative (b ∷ bs) = b == minus && begins is_ascii_digit bs

-- a quote stands at either end
abbrev pub IsQuoted : List ℕ → Type 0
IsQuoted bytes = (2 ≤ length bytes) × (slice_index bytes 0 ≡ quote) × (slice_index bytes (length bytes - 1) ≡ quote)
