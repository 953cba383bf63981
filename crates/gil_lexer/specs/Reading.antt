-- The token at the front of a text, as a function: what the private functions answer. What a text spells
-- is said apart from it in Spelling.antt, and the two are proved to agree.
use Rattle.std.specs.Prelude.{ℕ, ℤ, pos, neg_ℤ, Bool, true, false, not, ◌+◌, ◌^◌, ◌&&◌, ◌==◌, nat_eq, nat_le, nat_lt, if◌then◌else◌, List, [], ◌∷◌, length, take, find, Option, Some, None, is_some, Result, Ok, Err}
use Rattle.std.specs.List.{prefix_len, starts_with, list_all}
use Rattle.std.specs.Str.{bytes_eq}
use Rattle.std.specs.Str.Parse.{digits_value}
use Rattle.std.specs.Char.{is_ascii_digit}
use Rattle.gil_lexer.specs.Bytes.{line_feed, quote, hash, minus, at_sign, backslash, is_blank, is_name_start, is_name_byte, is_printable, is_plain, is_escape, letter_n, begins, begins_comment, begins_negative}
use Rattle.gil_lexer.specs.Words.{word_bytes, all_words}
use Rattle.gil_lexer.specs.Signs.{sign_bytes, all_signs}
use Rattle.gil_lexer.specs.declared.words.Word.{Word}
use Rattle.gil_lexer.specs.declared.signs.Sign.{Sign}
use Rattle.gil_lexer.specs.declared.forms.Form.{Form}
use Rattle.gil_lexer.specs.declared.forms.Form.TheVariants as forms
use Rattle.gil_lexer.specs.declared.faults.LexKind.{LexKind}
use Rattle.gil_lexer.specs.declared.faults.LexKind.TheVariants as kinds

-- behind the line feed that ends a comment
abbrev pub after_comment : List ℕ → List ℕ
after_comment [] = []
after_comment (b ∷ bs) = if b == line_feed then bs else after_comment bs

-- behind the blanks and comments; inside says whether the text begins within a comment
abbrev pub after_blanks : Bool → List ℕ → List ℕ
after_blanks inside [] = []
after_blanks true (b ∷ bs) = after_blanks (not (b == line_feed)) bs
after_blanks false (b ∷ bs) =
    if is_blank b then after_blanks false bs
    else (if begins_comment (b ∷ bs) then after_blanks true bs
    else (b ∷ bs))

-- the reserved word that the bytes spell
unfoldable pub word_of : List ℕ → Option Word
word_of text = find (λ word. bytes_eq text (word_bytes word)) all_words

-- the longest sign at the front
unfoldable pub sign_of : List ℕ → Option Sign
sign_of text = find (λ sign. starts_with nat_eq text (sign_bytes sign)) all_signs

-- the number that digits write, if it is at most 2 ^ 63
abbrev pub magnitude : List ℕ → Option ℕ
magnitude digits =
    if list_all is_ascii_digit digits && not (nat_eq (length digits) 0) && nat_le (digits_value 10 digits) (2 ^ 63)
    then Some (digits_value 10 digits) else None

abbrev pub negative : Option ℕ → Option ℤ
negative None = None
negative (Some n) = Some (neg_ℤ (pos n))

abbrev pub positive : Option ℕ → Option ℤ
positive None = None
positive (Some n) = if nat_lt n (2 ^ 63) then Some (pos n) else None

-- the number that the bytes write, if it fits 64 bits
unfoldable pub number_value : List ℕ → Option ℤ
number_value [] = None
number_value (b ∷ bs) = if b == minus then negative (magnitude bs) else positive (magnitude (b ∷ bs))

-- one byte more
abbrev pub one_more : Result ℕ LexKind → Result ℕ LexKind
one_more (Ok n) = Ok (1 + n)
one_more (Err kind) = Err kind

-- how many bytes a text literal has behind its opening quote; escaped says whether a backslash stands before
abbrev pub literal_len : Bool → List ℕ → Result ℕ LexKind
literal_len true [] = Err kinds.Escape
literal_len true (b ∷ bs) = if is_escape b then one_more (literal_len false bs) else Err kinds.Escape
literal_len false [] = Err kinds.Open
literal_len false (b ∷ bs) =
    if b == quote then Ok 1
    else (if b == backslash then one_more (literal_len true bs)
    else (if is_printable b then one_more (literal_len false bs)
    else Err kinds.Open))

-- the character that an escape stands for, by the byte behind its backslash
abbrev pub escaped_character : ℕ → ℕ
escaped_character b = if b == letter_n then line_feed else b

abbrev pub with_character : ℕ → Option (List ℕ) → Option (List ℕ)
with_character c None = None
with_character c (Some cs) = Some (c ∷ cs)

-- the characters between the quotes; escaped says whether a backslash stands before
abbrev pub unescaped : Bool → List ℕ → Option (List ℕ)
unescaped true [] = None
unescaped true (b ∷ bs) = if is_escape b then with_character (escaped_character b) (unescaped false bs) else None
unescaped false [] = Some []
unescaped false (b ∷ bs) =
    if b == backslash then unescaped true bs
    else (if is_plain b then with_character b (unescaped false bs)
    else None)

-- a token's form and its length
abbrev pub word_form : Option Word → Form
word_form None = forms.Name
word_form (Some word) = forms.Word word

unfoldable pub name_at : List ℕ → Form × ℕ
name_at text =
    let n = prefix_len is_name_byte text in
    (word_form (word_of (take n text)), n)

-- a name behind its mark `#` or `@`
abbrev pub marked_name : Form → List ℕ → Result (Form × ℕ) LexKind
marked_name form after =
    if begins is_name_start after then Ok (form, 1 + prefix_len is_name_byte after) else Err kinds.Byte

abbrev pub literal_form : Result ℕ LexKind → Result (Form × ℕ) LexKind
literal_form (Ok n) = Ok (forms.Text, 1 + n)
literal_form (Err kind) = Err kind

unfoldable pub number_at : List ℕ → ℕ → Result (Form × ℕ) LexKind
number_at text n = if is_some (number_value (take n text)) then Ok (forms.Number, n) else Err kinds.Wide

abbrev pub sign_form : Option Sign → Result (Form × ℕ) LexKind
sign_form None = Err kinds.Byte
sign_form (Some sign) = Ok (forms.Sign sign, length (sign_bytes sign))

-- The token at the front; takes says whether a `-` before a digit belongs to the number.
unfoldable pub token_at : Bool → List ℕ → Result (Form × ℕ) LexKind
token_at takes [] = Err kinds.Byte
token_at takes (b ∷ bs) =
    if b == quote then literal_form (literal_len false bs)
    else (if b == hash then marked_name forms.Logical bs
    else (if b == at_sign then marked_name forms.Procedure bs
    else (if begins_negative (b ∷ bs) && takes then number_at (b ∷ bs) (1 + prefix_len is_ascii_digit bs)
    else (if is_ascii_digit b then number_at (b ∷ bs) (prefix_len is_ascii_digit (b ∷ bs))
    else (if is_name_start b then Ok (name_at (b ∷ bs))
    else sign_form (sign_of (b ∷ bs)))))))
