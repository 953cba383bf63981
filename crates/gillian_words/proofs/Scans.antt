-- Scans over the values of a list of inputs.
use Rattle.std.proofs.Common.{◌≡◌, ℕ, ◌+◌, ◌<◌, List, [], ◌∷◌, ◌++◌, length, drop, get_or, Option, Some, None, refl, sym, ap, ◌∙◌, arith}
use Rattle.std.proofs.Common.{suc, Bool, true, false, cond, eqb, ◌≢◌, zero-add, add-zero, append_assoc, option_and_then}
use Rattle.std.proofs.Common.{take, subst, ap₂}
use Rattle.std.proofs.Math.Seq.{take-length, take-append_seam, drop-append-add}
use Rattle.std.proofs.lemmas.List.{at_drop_more, append-nil, take-append-drop}
use Rattle.std.proofs.lemmas.Bool.{eqb-true, ne_eqb}
use Rattle.std.proofs.lemmas.Option.{same_Some}
use Rattle.std.proofs.lemmas.Str.Parse.{digit_from_value}
use Rattle.std.specs.Char.{digit_value}
use Rattle.std.specs.Str.Parse.{AllDigits, IsNumeral, without_leading_sign}
use Rattle.gil_values.specs.Pure.{PureValue, integer, boolean, text, symbol, kind, procedure, list}
use Rattle.gil_lexer.specs.Bytes.{quote, backslash, letter_n, line_feed}
use Rattle.gil_lexer.specs.Spelling.{character_bytes, characters_bytes}
use Rattle.gillian_words.specs.declared.scan.Scan.TheVariants.{Outside, Inside, Escaped}
use Rattle.gillian_words.specs.Inputs.{comma, boolean_word, SpellsInput, SpellsSome}
use Rattle.gillian_words.specs.declared.scan.Scan.{Scan}
use Rattle.gillian_words.specs.Pieces.{next, one_and, piece_len}

-- a turn of the scan
pub scan_turn : (bytes : List ℕ) (i whole : ℕ) (scan after : Scan) → i < length bytes → i + piece_len scan (drop i bytes) ≡ whole
    → next scan (get_or bytes i 0) ≡ Some after → (i + 1) + piece_len after (drop (i + 1) bytes) ≡ whole
scan_turn bytes i whole scan after lt kept goes =
    let turn = at_drop_more (λ rest. i + piece_len scan rest) bytes i 0 lt in
    let read = rw goes at turn in
    omega (arith, read, kept)

-- where the scan ends
pub scan_end : (bytes : List ℕ) (i whole : ℕ) (scan : Scan) → i < length bytes → i + piece_len scan (drop i bytes) ≡ whole
    → next scan (get_or bytes i 0) ≡ None → i ≡ whole
scan_end bytes i whole scan lt kept ends =
    let turn = at_drop_more (λ rest. i + piece_len scan rest) bytes i 0 lt in
    let read = rw ends at turn in
    omega (arith, read, kept)

-- ---- a spelled value is one piece

-- where a scan is behind bytes that it goes over
abbrev scanned : Scan → List ℕ → Option Scan
scanned scan [] = Some scan
scanned scan (b ∷ bs) = option_and_then (λ after. scanned after bs) (next scan b)

-- one byte more that is scanned counts one more
one_more : (o : Option Scan) (after : Scan) (bs rest : List ℕ) → ((t : Scan) → scanned t bs ≡ Some after → piece_len t (bs ++ rest) ≡ length bs + piece_len after rest)
    → option_and_then (λ t. scanned t bs) o ≡ Some after → one_and o (λ t. piece_len t (bs ++ rest)) ≡ suc (length bs) + piece_len after rest
one_more None after bs rest behind e = absurd (cc)
one_more (Some t) after bs rest behind e = let counted = behind t e in omega (arith, counted)

-- what is scanned to its end counts whole
scanned_counts : (bs : List ℕ) (scan after : Scan) (rest : List ℕ) → scanned scan bs ≡ Some after → piece_len scan (bs ++ rest) ≡ length bs + piece_len after rest
scanned_counts [] scan after rest e = let same : scan ≡ after = same_Some _ _ e in ap (λ s. piece_len s rest) same ∙ sym (zero-add _)
scanned_counts (b ∷ bs) scan after rest e = one_more (next scan b) after bs rest (λ t. scanned_counts bs t after rest) e

-- bytes that are neither quotes nor commas are scanned outside quotes
abbrev IsPlainByte : ℕ → Type 0
IsPlainByte b = (eqb b comma ≡ false) × (eqb b quote ≡ false)

plain_next : (b : ℕ) → IsPlainByte b → next Outside b ≡ Some Outside
plain_next b plain = rw (plain.0, plain.1) refl

digit_plain : (c : ℕ) → digit_value c < 10 → IsPlainByte c
digit_plain c digit = let in_range = digit_from_value c digit in (ne_eqb c comma (λ e. absurd (omega (arith, e, in_range.0, in_range.1))), ne_eqb c quote (λ e. absurd (omega (arith, e, in_range.0, in_range.1))))

digits_scanned : (ds : List ℕ) → AllDigits 10 ds → scanned Outside ds ≡ Some Outside
digits_scanned [] digits = refl
digits_scanned (c ∷ ds) digits = rw (plain_next c (digit_plain c digits.0)) (digits_scanned ds digits.1)

number_scanned_by : (b : ℕ) (bs : List ℕ) (m p : Bool) → eqb b 45 ≡ m → eqb b 43 ≡ p → b ≢ 43
    → IsNumeral 10 (cond m (drop 1 (b ∷ bs)) (drop (cond p 1 0) (b ∷ bs))) → scanned Outside (b ∷ bs) ≡ Some Outside
number_scanned_by b bs true p is_minus is_plus no_plus numeral =
    let is = eqb-true b 45 is_minus in
    rw (plain_next b (ne_eqb b comma (λ e. absurd (omega (arith, e, is))), ne_eqb b quote (λ e. absurd (omega (arith, e, is))))) (digits_scanned bs numeral.1)
number_scanned_by b bs false true is_minus is_plus no_plus numeral = absurd (no_plus (eqb-true b 43 is_plus))
number_scanned_by b bs false false is_minus is_plus no_plus numeral = digits_scanned (b ∷ bs) numeral.1

number_scanned : (word : List ℕ) → get_or word 0 0 ≢ 43 → IsNumeral 10 (without_leading_sign word) → scanned Outside word ≡ Some Outside
number_scanned [] no_plus numeral = refl
number_scanned (b ∷ bs) no_plus numeral = number_scanned_by b bs (eqb b 45) (eqb b 43) refl refl no_plus numeral

-- a character between quotes is scanned
character_scanned_by : (c : ℕ) (rest : List ℕ) (q k f : Bool) → eqb c quote ≡ q → eqb c backslash ≡ k
    → scanned Inside (cond q (backslash ∷ quote ∷ []) (cond k (backslash ∷ backslash ∷ []) (cond f (backslash ∷ letter_n ∷ []) (c ∷ []))) ++ rest) ≡ scanned Inside rest
character_scanned_by c rest true k f e h = refl
character_scanned_by c rest false true f e h = refl
character_scanned_by c rest false false true e h = refl
character_scanned_by c rest false false false e h = rw (e, h) refl

characters_scanned : (cs rest : List ℕ) → scanned Inside (characters_bytes cs ++ rest) ≡ scanned Inside rest
characters_scanned [] rest = refl
characters_scanned (c ∷ cs) rest =
    ap (scanned Inside) (append_assoc (character_bytes c) (characters_bytes cs) rest)
    ∙ character_scanned_by c (characters_bytes cs ++ rest) (eqb c quote) (eqb c backslash) (eqb c line_feed) refl refl
    ∙ characters_scanned cs rest

text_scanned : (word cs : List ℕ) → word ≡ quote ∷ characters_bytes cs ++ quote ∷ [] → scanned Outside word ≡ Some Outside
text_scanned word cs is = rw is (characters_scanned cs (quote ∷ []))

boolean_scanned : (b : Bool) (word : List ℕ) → word ≡ boolean_word b → scanned Outside word ≡ Some Outside
boolean_scanned true word is = rw is refl
boolean_scanned false word is = rw is refl

value_scanned : (v : PureValue) (word : List ℕ) → SpellsInput word v → scanned Outside word ≡ Some Outside
value_scanned (integer z) word spelled = number_scanned word spelled.no_plus spelled.digits
value_scanned (boolean b) word spelled = boolean_scanned b word spelled
value_scanned (text cs) word spelled = text_scanned word cs spelled.1
value_scanned (symbol n) word spelled = absurd spelled
value_scanned (kind k) word spelled = absurd spelled
value_scanned (procedure f) word spelled = absurd spelled
value_scanned (list vs) word spelled = absurd spelled

-- a spelled value is the whole piece at the end, and the piece before a comma
pub last_piece : (v : PureValue) (word : List ℕ) → SpellsInput word v → piece_len Outside word ≡ length word
last_piece v word spelled =
    let counted = scanned_counts word Outside Outside [] (value_scanned v word spelled) in
    ap (piece_len Outside) (sym (append-nil word)) ∙ counted ∙ add-zero _

pub first_piece : (v : PureValue) (word more : List ℕ) → SpellsInput word v → piece_len Outside (word ++ comma ∷ more) ≡ length word
first_piece v word more spelled = scanned_counts word Outside Outside (comma ∷ more) (value_scanned v word spelled) ∙ add-zero _

-- a scan ends at a comma
outside_ends : (b : ℕ) (c q : Bool) → eqb b comma ≡ c → cond c None (cond q (Some Inside) (Some Outside)) ≡ None → b ≡ comma
outside_ends b true q is e = eqb-true b comma is
outside_ends b false true is e = absurd (cc)
outside_ends b false false is e = absurd (cc)

inside_goes : (b : ℕ) (q k : Bool) → cond q (Some Outside) (cond k (Some Escaped) (Some Inside)) ≡ None → b ≡ comma
inside_goes b true k e = absurd (cc)
inside_goes b false true e = absurd (cc)
inside_goes b false false e = absurd (cc)

ends_at_comma : (scan : Scan) (b : ℕ) → next scan b ≡ None → b ≡ comma
ends_at_comma Outside b e = outside_ends b (eqb b comma) (eqb b quote) refl e
ends_at_comma Inside b e = inside_goes b (eqb b quote) (eqb b backslash) e
ends_at_comma Escaped b e = absurd (cc)

-- a piece that ends before the bytes do is followed by a comma
comma_by : (scan : Scan) (b : ℕ) (bs : List ℕ) (o : Option Scan) → next scan b ≡ o
    → ((t : Scan) → piece_len t bs < length bs → get_or bs (piece_len t bs) 0 ≡ comma)
    → one_and o (λ t. piece_len t bs) < suc (length bs) → get_or (b ∷ bs) (one_and o (λ t. piece_len t bs)) 0 ≡ comma
comma_by scan b bs None is behind lt = ends_at_comma scan b is
comma_by scan b bs (Some t) is behind lt = behind t (omega (arith, lt))

pub comma_behind : (bytes : List ℕ) (scan : Scan) → piece_len scan bytes < length bytes → get_or bytes (piece_len scan bytes) 0 ≡ comma
comma_behind [] scan lt = absurd (omega (arith, lt))
comma_behind (b ∷ bs) scan lt = comma_by scan b bs (next scan b) refl (λ t. comma_behind bs t) lt

-- ---- the first of several values

split_at : (bytes : List ℕ) (n b : ℕ) → n < length bytes → get_or bytes n 0 ≡ b → bytes ≡ take n bytes ++ b ∷ drop (n + 1) bytes
split_at bytes n b lt is =
    let whole : take n bytes ++ drop n bytes ≡ bytes = take-append-drop n bytes in
    let first : drop n bytes ≡ get_or bytes n 0 ∷ drop (n + 1) bytes = at_drop_more (λ rest. rest) bytes n 0 lt in
    sym whole ∙ ap (λ rest. take n bytes ++ rest) (first ∙ ap (λ c. c ∷ drop (n + 1) bytes) is)

-- the first value is spelled by the first piece
pub first_spelled : (rest : List ℕ) (v : PureValue) (ws : List PureValue) → SpellsSome rest v ws → SpellsInput (take (piece_len Outside rest) rest) v
first_spelled rest v [] some =
    let whole : take (piece_len Outside rest) rest ≡ rest = ap (λ n. take n rest) (last_piece v rest some) ∙ take-length rest in
    subst (λ word. SpellsInput word v) (sym whole) some
first_spelled rest v (w ∷ ws) some =
    let len : piece_len Outside rest ≡ length some.0 = ap (piece_len Outside) some.2 ∙ first_piece v some.0 some.1 some.3 in
    let first : take (piece_len Outside rest) rest ≡ some.0 = ap₂ take len some.2 ∙ take-append_seam some.0 (comma ∷ some.1) in
    subst (λ word. SpellsInput word v) (sym first) some.3

-- the others are spelled by what stands behind the comma
pub more_spelled : (rest : List ℕ) (v w : PureValue) (ws : List PureValue) → SpellsSome rest v (w ∷ ws) → SpellsSome (drop (piece_len Outside rest + 1) rest) w ws
more_spelled rest v w ws some =
    let len : piece_len Outside rest ≡ length some.0 = ap (piece_len Outside) some.2 ∙ first_piece v some.0 some.1 some.3 in
    let more : drop (piece_len Outside rest + 1) rest ≡ some.1 =
    ap₂ (λ n bytes. drop (n + 1) bytes) len some.2 ∙ drop-append-add some.0 (comma ∷ some.1) 1 in
    subst (λ word. SpellsSome word w ws) (sym more) some.4

-- a value and a comma before others make one more
pub one_more_spelled : (rest : List ℕ) (v w : PureValue) (ws : List PureValue) → piece_len Outside rest < length rest
    → SpellsInput (take (piece_len Outside rest) rest) v → SpellsSome (drop (piece_len Outside rest + 1) rest) w ws → SpellsSome rest v (w ∷ ws)
one_more_spelled rest v w ws lt first some =
    (take (piece_len Outside rest) rest, drop (piece_len Outside rest + 1) rest, split_at rest (piece_len Outside rest) comma lt (comma_behind rest Outside lt), first, some)

-- where the piece ends before the text does, another value follows
pub another_spelled : (rest : List ℕ) (v : PureValue) (ws : List PureValue) → piece_len Outside rest < length rest → SpellsSome rest v ws
    → (w : PureValue) × ((us : List PureValue) × SpellsSome (drop (piece_len Outside rest + 1) rest) w us)
another_spelled rest v [] lt some = absurd (omega (arith, lt, last_piece v rest some))
another_spelled rest v (w ∷ us) lt some = (w, (us, more_spelled rest v w us some))
