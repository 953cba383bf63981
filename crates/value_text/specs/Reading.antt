-- Reading from the front of bytes, as functions: what the readers answer. Reading.antt retraces no printing: that what was printed is read
-- again is a law of Laws.antt.
use Rattle.std.specs.Prelude.{◌≡◌, ℕ, zero, suc, ℤ, pos, neg_ℤ, ◌+◌, ◌^◌, Bool, true, false, not, ◌&&◌, ◌||◌, ◌==◌, nat_eq, nat_le, nat_lt, if◌then◌else◌, List, [], ◌∷◌, ◌++◌, length, take, drop, Option, Some, None, Result, Ok, Err, codes}
use Rattle.std.specs.List.{prefix_len, list_all}
use Rattle.std.specs.Char.{is_ascii_digit}
use Rattle.std.specs.Str.Parse.{digits_value}
use Rattle.gil_values.specs.declared.kinds.Kind.{Kind}
use Rattle.gil_values.specs.declared.kinds.Kind.TheVariants as kinds
use Rattle.gil_values.specs.Pure.{PureValue, integer, boolean, text, symbol, kind, procedure, list, from_list}
use Rattle.gil_lexer.specs.Bytes.{begins, is_name_start, is_name_byte, is_plain, is_escape, quote, backslash, minus}
use Rattle.gil_lexer.specs.Reading.{escaped_character}
use Rattle.value_text.specs.declared.faults.ReadFault.{ReadFault}
use Rattle.value_text.specs.declared.faults.ReadFault.TheVariants as faults

-- what is read from the front of bytes, and those behind it
abbrev pub Reading : Type 0 → Type 0
Reading X = Option (X × List ℕ)

-- one step after another
infixl 10 ◌>>=◌
abbrev pub ◌>>=◌ : {A B : Type 0} → Option A → (A → Option B) → Option B
(Some x) >>= f = f x
None >>= f = None

-- the first, or where it reads nothing the second
infixr 9 ◌or_else◌
abbrev pub ◌or_else◌ : {A : Type 0} → Option A → Option A → Option A
(Some x) or_else y = Some x
None or_else y = y

-- What a function returned, seen by view, is what reading gives, unless memory ran out.
abbrev pub Fails : {Y : Type 0} → ReadFault → Option Y → Type 0
Fails faults.Memory read = Unit {0}
Fails faults.Form read = read ≡ None

abbrev pub Gives : {X Y : Type 0} → (X → Y) → Result X ReadFault → Option Y → Type 0
Gives view (Ok x) read = read ≡ Some (view x)
Gives view (Err fault) read = Fails fault read

-- the bytes behind a word, where they begin with it
unfoldable pub behind : List ℕ → List ℕ → Option (List ℕ)
behind [] bytes = Some bytes
behind (c ∷ word) [] = None
behind (c ∷ word) (b ∷ bytes) = if b == c then behind word bytes else None

-- what was read before, and what is still read
abbrev pub with_front : {X : Type 0} → List X → Reading (List X) → Reading (List X)
with_front front read = read >>= λ xs. Some (front ++ xs.0, xs.1)

-- as many as there are, up to n, until `stops` says that none follows
module _ {X : Type 0} (stops : List ℕ → Bool) (read : List ℕ → Reading X) where
  unfoldable pub many_at : ℕ → List ℕ → Reading (List X)
  many_at zero bytes = Some ([], bytes)
  many_at (suc n) bytes = if stops bytes then Some ([], bytes) else (read bytes >>= λ x. with_front (x.0 ∷ []) (many_at n x.1))

-- ---- numbers

-- the number that digits write, if it is at most 2 ^ 127
abbrev pub magnitude : List ℕ → Option ℕ
magnitude digits =
    if list_all is_ascii_digit digits && not (nat_eq (length digits) 0) && nat_le (digits_value 10 digits) (2 ^ 127)
    then Some (digits_value 10 digits) else None

-- the number that the digits at the front write
unfoldable pub number_at : List ℕ → Reading ℕ
number_at bytes =
    magnitude (take (prefix_len is_ascii_digit bytes) bytes) >>= λ n. Some (n, drop (prefix_len is_ascii_digit bytes) bytes)

-- the same, if it has so many bits
unfoldable pub natural_at : ℕ → List ℕ → Reading ℕ
natural_at bits bytes = number_at bytes >>= λ n. if nat_lt n.0 (2 ^ bits) then Some n else None

abbrev pub is_number_start : ℕ → Bool
is_number_start b = b == minus || is_ascii_digit b

unfoldable pub positive_at : List ℕ → Reading ℤ
positive_at bytes = number_at bytes >>= λ n. if nat_lt n.0 (2 ^ 127) then Some (pos n.0, n.1) else None

unfoldable pub negative_at : List ℕ → Reading ℤ
negative_at bytes = behind (codes "-") bytes >>= λ digits. number_at digits >>= λ n. Some (neg_ℤ (pos n.0), n.1)

-- a whole number of 128 bits
abbrev pub integer_at : List ℕ → Reading ℤ
integer_at bytes = if begins (λ b. b == minus) bytes then negative_at bytes else positive_at bytes

-- ---- names and texts

-- the name at the front, reserved or not
abbrev pub name_at : List ℕ → Reading (List ℕ)
name_at bytes =
    if begins is_name_start bytes then Some (take (prefix_len is_name_byte bytes) bytes, drop (prefix_len is_name_byte bytes) bytes) else None

-- what stands behind it
abbrev pub past_name : List ℕ → List ℕ
past_name bytes = drop (prefix_len is_name_byte bytes) bytes

-- a character behind the backslash of its escape
abbrev pub escape_at : List ℕ → Reading ℕ
escape_at [] = None
escape_at (b ∷ bytes) = if is_escape b then Some (escaped_character b, bytes) else None

-- a character between quotes
abbrev pub character_at : List ℕ → Reading ℕ
character_at [] = None
character_at (b ∷ bytes) = if b == backslash then escape_at bytes else (if is_plain b then Some (b, bytes) else None)

abbrev pub before_quote : List ℕ → Bool
before_quote bytes = begins (λ b. b == quote) bytes

abbrev pub characters_at : List ℕ → Reading (List ℕ)
characters_at bytes = with_front [] (many_at before_quote character_at (length bytes) bytes)

-- a text between quotes
unfoldable pub text_at : List ℕ → Reading (List ℕ)
text_at bytes = do
  inner ← behind (codes "\"") bytes
  x ← characters_at inner
  rest ← behind (codes "\"") x.1
  Some (x.0, rest)

-- ---- values

-- what a word stands for
abbrev pub word_by : {X : Type 0} → List ℕ → X → List ℕ → Reading X
word_by word x bytes = behind word bytes >>= λ rest. Some (x, rest)

abbrev pub rarer_kind_at : List ℕ → Reading Kind
rarer_kind_at bytes =
    word_by (codes "Kind") kinds.Kind bytes or_else word_by (codes "Proc") kinds.Proc bytes or_else word_by (codes "List") kinds.List bytes
    or_else word_by (codes "Undef") kinds.Undef bytes or_else word_by (codes "Null") kinds.Null bytes

abbrev pub kind_at : List ℕ → Reading Kind
kind_at bytes =
    word_by (codes "Int") kinds.Int bytes or_else word_by (codes "Bool") kinds.Bool bytes or_else word_by (codes "Str") kinds.Str bytes
    or_else word_by (codes "Sym") kinds.Sym bytes or_else rarer_kind_at bytes

-- a truth or a kind
abbrev pub word_at : List ℕ → Reading PureValue
word_at bytes =
    (behind (codes "true") bytes >>= λ rest. Some (boolean true, rest)) or_else (behind (codes "false") bytes >>= λ rest. Some (boolean false, rest))
    or_else (kind_at bytes >>= λ k. Some (kind k.0, k.1))

-- the second where the first is None, and else what f reads behind it
abbrev pub behind_or : {X : Type 0} → Option (List ℕ) → (List ℕ → Reading X) → Reading X → Reading X
behind_or (Some rest) f other = f rest
behind_or None f other = other

-- a symbol, a procedure or a word
abbrev pub marked_at : List ℕ → Reading PureValue
marked_at bytes =
    behind_or (behind (codes "$") bytes) (λ rest. natural_at 64 rest >>= λ n. Some (symbol n.0, n.1))
    (behind_or (behind (codes "@") bytes) (λ rest. name_at rest >>= λ x. Some (procedure x.0, x.1))
    (word_at bytes))

-- a value that is no list
abbrev pub leaf_at : List ℕ → Reading PureValue
leaf_at bytes =
    if begins is_number_start bytes then (integer_at bytes >>= λ n. Some (integer n.0, n.1))
    else (if before_quote bytes then (text_at bytes >>= λ x. Some (text x.0, x.1))
    else marked_at bytes)

-- ---- lists

abbrev pub before_no_comma : List ℕ → Bool
before_no_comma bytes = not (begins (λ b. b == 44) bytes)

module _ {X : Type 0} (read : List ℕ → Reading X) where
  abbrev pub behind_comma : List ℕ → Reading X
  behind_comma bytes = behind (codes ", ") bytes >>= read

  -- elements up to the closing bracket, with commas between them
  abbrev pub elements_at : List ℕ → Reading (List X)
  elements_at bytes =
      if begins (λ b. b == 93) bytes then Some ([], bytes)
      else (read bytes >>= λ x. with_front (x.0 ∷ []) (many_at before_no_comma behind_comma (length x.1) x.1))

unfoldable pub list_at : (List ℕ → Reading PureValue) → List ℕ → Reading PureValue
list_at read bytes = do
  inner ← behind (codes "[") bytes
  vs ← elements_at read inner
  rest ← behind (codes "]") vs.1
  Some (list (from_list vs.0), rest)

-- a value in which lists are nested at most so deep
unfoldable pub value_at : ℕ → List ℕ → Reading PureValue
value_at zero bytes = if begins (λ b. b == 91) bytes then None else leaf_at bytes
value_at (suc n) bytes = if begins (λ b. b == 91) bytes then list_at (value_at n) bytes else leaf_at bytes

abbrev pub any_value_at : List ℕ → Reading PureValue
any_value_at bytes = value_at (length bytes) bytes

-- elements in brackets
unfoldable pub bracketed_at : {X : Type 0} → (List ℕ → Reading X) → List ℕ → Reading (List X)
bracketed_at read bytes = do
  inner ← behind (codes "[") bytes
  xs ← elements_at read inner
  rest ← behind (codes "]") xs.1
  Some (xs.0, rest)

abbrev pub bracketed_values_at : List ℕ → Reading (List PureValue)
bracketed_values_at bytes = bracketed_at (value_at (length bytes)) bytes
