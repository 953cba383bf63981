-- The tokens of printed lexemes.
use Rattle.std.proofs.Common.{◌≡◌, ℕ, zero, suc, ◌+◌, ◌-◌, ◌<◌, ◌≤◌, Bool, true, false, ◌||◌, ℤ, pos, negsuc, neg_ℤ, List, [], ◌∷◌, ◌++◌, map, Option, Some, refl, sym, ap, ◌∙◌, subst, inl, inr, arith}
use Rattle.std.specs.Prelude.{codes, FitsSigned}
use Rattle.std.specs.List.{list_all}
use Rattle.std.specs.Char.{is_ascii_digit}
use Rattle.std.specs.Int.{w64}
use Rattle.std.specs.Int.Digits.{digits_of, AllBelowBase}
use Rattle.std.specs.Str.Parse.{digits_value}
use Rattle.std.proofs.lemmas.Bool.{and_from, and_parts, le-leb}
use Rattle.std.proofs.lemmas.Int.Digits.{all_below_base_digits_of}
use Rattle.gil_values.specs.declared.kinds.Kind.{Kind}
use Rattle.gil_values.specs.declared.kinds.Kind.TheVariants as kinds
use Rattle.gil_values.specs.Pure.{PureValue, integer, boolean, text, symbol, kind, procedure, list}
use Rattle.gil_values.specs.Printed.{numeral, signed_numeral, text_literal, printed_value, kind_name, truth_name}
use Rattle.gil_values.proofs.Numerals.{numeral-value}
use Rattle.gil_lexer.specs.Bytes.{at_sign, is_name_start, is_name_byte, begins, begins_comment, begins_negative}
use Rattle.gil_lexer.specs.Reading.{sign_of}
use Rattle.gil_lexer.specs.Signs.{sign_bytes, all_signs}
use Rattle.gil_lexer.specs.Words.{word_bytes}
use Rattle.gil_lexer.specs.Spelling.{Spells, AreDigits, SpellsNumber, AreCharacters, IsToken, takes_minus}
use Rattle.gil_lexer.specs.declared.forms.Form.{Form}
use Rattle.gil_lexer.specs.declared.forms.Form.TheVariants as forms
use Rattle.gil_lexer.specs.declared.signs.Sign.{Sign}
use Rattle.gil_lexer.specs.declared.signs.Sign.TheVariants as signs
use Rattle.gil_lexer.specs.declared.words.Word.{Word}
use Rattle.gil_lexer.specs.declared.words.Word.TheVariants as words
use Rattle.gil_lexer.proofs.ByteLemmas.{digit_no_mark}
use Rattle.gil_lexer.proofs.NumberLemmas.{spells_one}
use Rattle.gil_lexer.proofs.SignLemmas.{sign_of_longest}
use Rattle.gil_lexemes.specs.declared.standing.Lexeme.{Lexeme}
use Rattle.gil_lexemes.specs.declared.standing.Lexeme.TheVariants as lexemes
use Rattle.gil_lexemes.specs.Lexemes.{StandsFor}
use Rattle.gil_lexemes.specs.Reading.{form_of}
use Rattle.gil_grammar.specs.declared.positions.Position.{Position}
use Rattle.gil_grammar.specs.declared.positions.Position.TheVariants as positions
use Rattle.gil_grammar.specs.Nesting.{most_open, open_behind}
use Rattle.gil_grammar.specs.Vocabulary.{boolean_word, kind_word, literal_lexeme, word_name, IsNameAt}
use Rattle.gil_grammar.proofs.ListLaws.{found_is}
use Rattle.gil_print.proofs.Lexing.{IsSpelled, MayStand, Lexes, lexes_token, lexes_blank}

-- the bytes go on no name and no number
abbrev pub Stops : List ℕ → Type 0
Stops bytes = begins is_name_byte bytes ≡ false

-- a lexeme that is no bracket
abbrev pub Opens : Lexeme → Type 0
Opens l = (count : ℕ) → open_behind count l ≡ count

-- the text is a token that stands for the lexeme, wherever the lexeme may stand, if the bytes behind it don't go on it
abbrev pub TokenOf : Lexeme → List ℕ → Type 0
TokenOf l spelling = (b : Option Form) → MayStand b l → (bytes : List ℕ) → Stops bytes → IsToken b (form_of l) spelling bytes × StandsFor (form_of l) spelling l

-- ---- signs

-- with these bytes behind it the sign is a token, wherever it stands
abbrev pub Clear : Sign → List ℕ → Type 0
Clear s bytes = (sign_of (sign_bytes s ++ bytes) ≡ Some s) × (begins_comment (sign_bytes s ++ bytes) ≡ false) × (begins_negative (sign_bytes s ++ bytes) ≡ false)

pub lexes_sign : (s : Sign) (b : Option Form) (count : ℕ) (bytes : List ℕ) (ls : List Lexeme) → Clear s bytes → open_behind count (lexemes.Sign s) ≤ most_open
    → Lexes (Some (forms.Sign s)) (open_behind count (lexemes.Sign s)) bytes ls → Lexes b count (sign_bytes s ++ bytes) (lexemes.Sign s ∷ ls)
lexes_sign s b count bytes ls (is, comment, negative) within h =
    lexes_token b count (lexemes.Sign s) (sign_bytes s) bytes ls (refl, (sign_of_longest (sign_bytes s ++ bytes) s is, comment, λ _. negative)) refl within h

-- a blank behind the sign
clear_blank : (s : Sign) (bytes : List ℕ) → Clear s (32 ∷ bytes)
unfolding sign_of sign_bytes all_signs
clear_blank signs.ColonEqual bytes = (refl, refl, refl)
clear_blank signs.EqualEqual bytes = (refl, refl, refl)
clear_blank signs.NotEqual bytes = (refl, refl, refl)
clear_blank signs.LessEqual bytes = (refl, refl, refl)
clear_blank signs.GreaterEqual bytes = (refl, refl, refl)
clear_blank signs.AndAnd bytes = (refl, refl, refl)
clear_blank signs.OrOr bytes = (refl, refl, refl)
clear_blank signs.PlusPlus bytes = (refl, refl, refl)
clear_blank signs.LeftParenthesis bytes = (refl, refl, refl)
clear_blank signs.RightParenthesis bytes = (refl, refl, refl)
clear_blank signs.LeftBracket bytes = (refl, refl, refl)
clear_blank signs.RightBracket bytes = (refl, refl, refl)
clear_blank signs.LeftBrace bytes = (refl, refl, refl)
clear_blank signs.RightBrace bytes = (refl, refl, refl)
clear_blank signs.Comma bytes = (refl, refl, refl)
clear_blank signs.Semicolon bytes = (refl, refl, refl)
clear_blank signs.Colon bytes = (refl, refl, refl)
clear_blank signs.Dot bytes = (refl, refl, refl)
clear_blank signs.Plus bytes = (refl, refl, refl)
clear_blank signs.Minus bytes = (refl, refl, refl)
clear_blank signs.Star bytes = (refl, refl, refl)
clear_blank signs.Slash bytes = (refl, refl, refl)
clear_blank signs.Percent bytes = (refl, refl, refl)
clear_blank signs.Equal bytes = (refl, refl, refl)
clear_blank signs.Less bytes = (refl, refl, refl)
clear_blank signs.Greater bytes = (refl, refl, refl)
clear_blank signs.Bang bytes = (refl, refl, refl)
clear_blank signs.Ampersand bytes = (refl, refl, refl)

-- a sign that is no bracket, with a blank behind it
pub sign_and_blank : (s : Sign) → Opens (lexemes.Sign s) → (b : Option Form) (count : ℕ) (bytes : List ℕ) (ls : List Lexeme) → count ≤ most_open
    → Lexes (Some (forms.Sign s)) count bytes ls → Lexes b count (sign_bytes s ++ 32 ∷ bytes) (lexemes.Sign s ∷ ls)
sign_and_blank s opens b count bytes ls within h =
    let same = opens count in
    lexes_sign s b count (32 ∷ bytes) ls (clear_blank s bytes) (rw same within)
    (subst (λ n. Lexes (Some (forms.Sign s)) n (32 ∷ bytes) ls) (sym same) (lexes_blank 32 _ count bytes ls refl h))

pub left_parenthesis : (b : Option Form) (count : ℕ) (bytes : List ℕ) (ls : List Lexeme) → count + 1 ≤ most_open
    → Lexes (Some (forms.Sign signs.LeftParenthesis)) (count + 1) bytes ls → Lexes b count (40 ∷ bytes) (lexemes.Sign signs.LeftParenthesis ∷ ls)
unfolding sign_of sign_bytes all_signs
left_parenthesis b count bytes ls within h = lexes_sign signs.LeftParenthesis b count bytes ls (refl, refl, refl) within h

pub left_bracket : (b : Option Form) (count : ℕ) (bytes : List ℕ) (ls : List Lexeme) → count + 1 ≤ most_open
    → Lexes (Some (forms.Sign signs.LeftBracket)) (count + 1) bytes ls → Lexes b count (91 ∷ bytes) (lexemes.Sign signs.LeftBracket ∷ ls)
unfolding sign_of sign_bytes all_signs
left_bracket b count bytes ls within h = lexes_sign signs.LeftBracket b count bytes ls (refl, refl, refl) within h

pub left_brace : (b : Option Form) (count : ℕ) (bytes : List ℕ) (ls : List Lexeme) → count + 1 ≤ most_open
    → Lexes (Some (forms.Sign signs.LeftBrace)) (count + 1) bytes ls → Lexes b count (123 ∷ bytes) (lexemes.Sign signs.LeftBrace ∷ ls)
unfolding sign_of sign_bytes all_signs
left_brace b count bytes ls within h = lexes_sign signs.LeftBrace b count bytes ls (refl, refl, refl) within h

-- one bracket less is open behind a closing one
pub closed : (count : ℕ) → count + 1 - 1 ≡ count
closed count = omega arith

pub right_parenthesis : (b : Option Form) (count : ℕ) (bytes : List ℕ) (ls : List Lexeme) → count ≤ most_open
    → Lexes (Some (forms.Sign signs.RightParenthesis)) count bytes ls → Lexes b (count + 1) (41 ∷ bytes) (lexemes.Sign signs.RightParenthesis ∷ ls)
unfolding sign_of sign_bytes all_signs
right_parenthesis b count bytes ls within h =
    lexes_sign signs.RightParenthesis b (count + 1) bytes ls (refl, refl, refl) (omega arith) (subst (λ n. Lexes (Some (forms.Sign signs.RightParenthesis)) n bytes ls) (sym (closed count)) h)

pub right_bracket : (b : Option Form) (count : ℕ) (bytes : List ℕ) (ls : List Lexeme) → count ≤ most_open
    → Lexes (Some (forms.Sign signs.RightBracket)) count bytes ls → Lexes b (count + 1) (93 ∷ bytes) (lexemes.Sign signs.RightBracket ∷ ls)
unfolding sign_of sign_bytes all_signs
right_bracket b count bytes ls within h =
    lexes_sign signs.RightBracket b (count + 1) bytes ls (refl, refl, refl) (omega arith) (subst (λ n. Lexes (Some (forms.Sign signs.RightBracket)) n bytes ls) (sym (closed count)) h)

pub right_brace : (b : Option Form) (count : ℕ) (bytes : List ℕ) (ls : List Lexeme) → count ≤ most_open
    → Lexes (Some (forms.Sign signs.RightBrace)) count bytes ls → Lexes b (count + 1) (125 ∷ bytes) (lexemes.Sign signs.RightBrace ∷ ls)
unfolding sign_of sign_bytes all_signs
right_brace b count bytes ls within h =
    lexes_sign signs.RightBrace b (count + 1) bytes ls (refl, refl, refl) (omega arith) (subst (λ n. Lexes (Some (forms.Sign signs.RightBrace)) n bytes ls) (sym (closed count)) h)

pub semicolon_step : (b : Option Form) (count : ℕ) (bytes : List ℕ) (ls : List Lexeme) → count ≤ most_open
    → Lexes (Some (forms.Sign signs.Semicolon)) count bytes ls → Lexes b count (59 ∷ bytes) (lexemes.Sign signs.Semicolon ∷ ls)
unfolding sign_of sign_bytes all_signs
semicolon_step b count bytes ls within h = lexes_sign signs.Semicolon b count bytes ls (refl, refl, refl) within h

-- ---- words and names

pub lexes_word : (word : Word) (b : Option Form) (count : ℕ) (bytes : List ℕ) (ls : List Lexeme) → count ≤ most_open → Stops bytes
    → Lexes (Some (forms.Word word)) count bytes ls → Lexes b count (word_bytes word ++ bytes) (lexemes.Word word ∷ ls)
lexes_word word b count bytes ls within stops h = lexes_token b count (lexemes.Word word) (word_bytes word) bytes ls (refl, stops) refl within h

-- a name stands for its characters
pub name_token : (x : List ℕ) → IsSpelled (lexemes.Name x) → TokenOf (lexemes.Name x) x
name_token x (spelling, spells, is) = λ b may bytes stops.
    let same : spelling ≡ x = cc is in
    ((subst (Spells forms.Name) same spells, stops), refl)

pub logical_token : (x : List ℕ) → IsSpelled (lexemes.Logical x) → TokenOf (lexemes.Logical x) x
logical_token x (spelling, spells, is) = λ b may bytes stops.
    let same : spelling ≡ x = cc is in
    ((subst (Spells forms.Logical) same spells, stops), refl)

-- a word that serves as a name is spelled as it
serves : (position : Position) (word : Word) (x : List ℕ) → word_name position word ≡ Some x → word_bytes word ≡ x
unfolding word_bytes
serves positions.Assertion words.Ret x e = found_is _ x e
serves positions.Predicate words.List x e = found_is _ x e
serves positions.Predicate words.Proto x e = found_is _ x e
serves positions.Action words.New x e = found_is _ x e
serves positions.Action words.Has x e = found_is _ x e
serves positions.Action words.Free x e = found_is _ x e
serves positions.Action words.Dispose x e = found_is _ x e
serves positions.Action words.Delete x e = found_is _ x e
serves positions.Action words.Setproto x e = found_is _ x e
serves _ _ x e = absurd cc

-- what holds of the lexeme of a name, and of the name as its text
pub record Named (l : Lexeme) (x : List ℕ) : Type 0 where
  pub opens : Opens l
  pub may : (b : Option Form) → MayStand b l
  pub token : TokenOf l x

pub named : (position : Position) (x : List ℕ) (l : Lexeme) → IsNameAt position x l → IsSpelled l → Named l x
named position x l (inl is) spelled =
    subst (λ k. Named k x) (sym is) (record { opens = λ count. refl; may = λ b. tt; token = name_token x (subst IsSpelled is spelled) })
named position x l (inr (word, says, is)) spelled =
    subst (λ k. Named k x) (sym is) (record { opens = λ count. refl; may = λ b. tt; token = λ b may bytes stops. ((serves position word x says, stops), refl) })

-- ---- numbers

below_ten : (d : ℕ) → d < 10 → is_ascii_digit (48 + d) ≡ true
below_ten d small = and_from _ _ (le-leb 48 (48 + d) (omega arith)) (le-leb (48 + d) 57 (omega arith))

all_digits : (ds : List ℕ) → AllBelowBase 10 ds → list_all is_ascii_digit (map (λ digit. 48 + digit) ds) ≡ true
all_digits [] below = refl
all_digits (d ∷ ds) below = and_from _ _ (below_ten d below.0) (all_digits ds below.1)

numeral_digits : (n : ℕ) → list_all is_ascii_digit (numeral n) ≡ true
unfolding numeral
numeral_digits zero = refl
numeral_digits (suc n) = all_digits (digits_of 10 (suc n)) (all_below_base_digits_of 10 (suc n) (omega arith))

first_digit : (ds : List ℕ) → list_all is_ascii_digit ds ≡ true → (ds ≡ [] → ⊥) → begins is_ascii_digit ds ≡ true
first_digit [] all some = absurd (some refl)
first_digit (d ∷ ds) all some = (and_parts _ _ all).0

numeral_some : (n : ℕ) → numeral n ≡ [] → ⊥
unfolding numeral
numeral_some zero e = absurd (cc e)
numeral_some (suc n) e = let value = sym (numeral-value (suc n)) ∙ ap (digits_value 10) e in absurd (omega (arith, value))

pub are_digits : (n : ℕ) → AreDigits (numeral n)
are_digits n = (first_digit (numeral n) (numeral_digits n) (numeral_some n), numeral_digits n)

spells_numeral : (z : ℤ) → SpellsNumber (signed_numeral z) z
spells_numeral (pos n) = (numeral n, are_digits n, inl (refl, ap pos (sym (numeral-value n))))
spells_numeral (negsuc n) = (numeral (suc n), are_digits (suc n), inr (refl, ap (λ m. neg_ℤ (pos m)) (sym (numeral-value (suc n)))))

or_false : (p q : Bool) → (p || q) ≡ false → (p ≡ false) × (q ≡ false)
or_false true q e = absurd cc
or_false false q e = (refl, e)

no_digit : (bytes : List ℕ) → Stops bytes → begins is_ascii_digit bytes ≡ false
no_digit [] stops = refl
no_digit (c ∷ bytes) stops = (or_false _ _ (or_false (is_name_start c || is_ascii_digit c) _ stops).0).1

digits_no_minus : (ds bytes : List ℕ) → AreDigits ds → begins_negative (ds ++ bytes) ≡ false
digits_no_minus [] bytes are = absurd (cc (are.0))
digits_no_minus (d ∷ ds) bytes are = rw (digit_no_mark d are.0).minus refl

number_may : (z : ℤ) (b : Option Form) (bytes : List ℕ) → MayStand b (lexemes.Number z) → begins_negative (signed_numeral z ++ bytes) ≡ true → takes_minus b ≡ true
number_may (pos n) b bytes may e = let no = digits_no_minus (numeral n) bytes (are_digits n) in absurd (cc (no, e))
number_may (negsuc n) b bytes may e = may

pub number_token : (z : ℤ) → IsSpelled (lexemes.Number z) → TokenOf (lexemes.Number z) (signed_numeral z)
number_token z (spelling, (m, fits, spells), (n, same_text, is)) = λ b may bytes stops.
    let first : n ≡ z = cc is in
    let second : m ≡ n = spells_one spelling m n spells same_text in
    (((z, subst (FitsSigned w64) (second ∙ first) fits, spells_numeral z), (no_digit bytes stops, number_may z b bytes may)), (z, spells_numeral z, refl))

-- ---- values

truth_word : (t : Bool) → word_bytes (boolean_word t) ≡ truth_name t
unfolding word_bytes
truth_word true = refl
truth_word false = refl

kind_spelled : (k : Kind) → word_bytes (kind_word k) ≡ kind_name k
unfolding word_bytes
kind_spelled kinds.Int = refl
kind_spelled kinds.Bool = refl
kind_spelled kinds.Str = refl
kind_spelled kinds.Sym = refl
kind_spelled kinds.Kind = refl
kind_spelled kinds.Proc = refl
kind_spelled kinds.List = refl
kind_spelled kinds.Undef = refl
kind_spelled kinds.Null = refl

literal_token : (cs : List ℕ) → IsSpelled (lexemes.Literal cs) → TokenOf (lexemes.Literal cs) (text_literal cs)
literal_token cs (spelling, spells, (characters, (are, same), is)) = λ b may bytes stops.
    let first : characters ≡ cs = cc is in
    let all : AreCharacters cs = subst AreCharacters first are in
    (((cs, (all, refl)), tt), (cs, (all, refl), refl))

procedure_token : (f : List ℕ) → IsSpelled (lexemes.Procedure f) → TokenOf (lexemes.Procedure f) (codes "@" ++ f)
procedure_token f (spelling, spells, (name, same, is)) = λ b may bytes stops.
    let first : name ≡ f = cc is in
    let shape : spelling ≡ at_sign ∷ f = same ∙ ap (λ x. at_sign ∷ x) first in
    ((subst (Spells forms.Procedure) shape spells, stops), (f, refl, refl))

-- what holds of the lexeme of a literal, and of the printed value as its text
pub record Valued (l : Lexeme) (printed : List ℕ) : Type 0 where
  pub opens : Opens l
  pub may : (b : Option Form) → takes_minus b ≡ true → MayStand b l
  pub token : TokenOf l printed

number_stands : (z : ℤ) (b : Option Form) → takes_minus b ≡ true → MayStand b (lexemes.Number z)
number_stands (pos n) b takes = tt
number_stands (negsuc n) b takes = takes

pub valued : (v : PureValue) (l : Lexeme) → literal_lexeme v ≡ Some l → IsSpelled l → Valued l (printed_value v)
valued (integer z) l e spelled =
    let is = found_is _ l e in
    subst (λ k. Valued k (signed_numeral z)) is (record { opens = λ count. refl; may = number_stands z; token = number_token z (subst IsSpelled (sym is) spelled) })
valued (boolean t) l e spelled =
    subst (λ k. Valued k (truth_name t)) (found_is _ l e) (record { opens = λ count. refl; may = λ b takes. tt; token = λ b may bytes stops. ((truth_word t, stops), refl) })
valued (text cs) l e spelled =
    let is = found_is _ l e in
    subst (λ k. Valued k (text_literal cs)) is (record { opens = λ count. refl; may = λ b takes. tt; token = literal_token cs (subst IsSpelled (sym is) spelled) })
valued (symbol n) l e spelled = absurd cc
valued (kind k) l e spelled =
    subst (λ m. Valued m (kind_name k)) (found_is _ l e) (record { opens = λ count. refl; may = λ b takes. tt; token = λ b may bytes stops. ((kind_spelled k, stops), refl) })
valued (procedure f) l e spelled =
    let is = found_is _ l e in
    subst (λ k. Valued k (codes "@" ++ f)) is (record { opens = λ count. refl; may = λ b takes. tt; token = procedure_token f (subst IsSpelled (sym is) spelled) })
valued (list vs) l e spelled = absurd cc

-- a token of a lexeme that is no bracket
pub lexes_of : (l : Lexeme) (printed : List ℕ) → Opens l → TokenOf l printed → (b : Option Form) (count : ℕ) (bytes : List ℕ) (ls : List Lexeme) → MayStand b l → count ≤ most_open
    → Stops bytes → Lexes (Some (form_of l)) count bytes ls → Lexes b count (printed ++ bytes) (l ∷ ls)
lexes_of l printed opens token b count bytes ls may within stops h =
    let t = token b may bytes stops in
    let same = opens count in
    lexes_token b count l printed bytes ls t.0 t.1 (rw same within) (subst (λ n. Lexes (Some (form_of l)) n bytes ls) (sym same) h)

-- ---- the signs and words of expressions

pub comma_step : (b : Option Form) (count : ℕ) (bytes : List ℕ) (ls : List Lexeme) → count ≤ most_open
    → Lexes (Some (forms.Sign signs.Comma)) count bytes ls → Lexes b count (44 ∷ 32 ∷ bytes) (lexemes.Sign signs.Comma ∷ ls)
unfolding sign_bytes
comma_step b count bytes ls within h = sign_and_blank signs.Comma (λ n. refl) b count bytes ls within h

-- a sign between blanks
pub sign_between : (s : Sign) → Opens (lexemes.Sign s) → (b : Option Form) (count : ℕ) (bytes : List ℕ) (ls : List Lexeme) → count ≤ most_open
    → Lexes (Some (forms.Sign s)) count bytes ls → Lexes b count (32 ∷ (sign_bytes s ++ 32 ∷ bytes)) (lexemes.Sign s ∷ ls)
sign_between s opens b count bytes ls within h = lexes_blank 32 b count (sign_bytes s ++ 32 ∷ bytes) (lexemes.Sign s ∷ ls) refl (sign_and_blank s opens b count bytes ls within h)

-- a word with a blank behind it
pub word_and_blank : (word : Word) (b : Option Form) (count : ℕ) (bytes : List ℕ) (ls : List Lexeme) → count ≤ most_open
    → Lexes (Some (forms.Word word)) count bytes ls → Lexes b count (word_bytes word ++ 32 ∷ bytes) (lexemes.Word word ∷ ls)
word_and_blank word b count bytes ls within h = lexes_word word b count (32 ∷ bytes) ls within refl (lexes_blank 32 _ count bytes ls refl h)

pub word_between : (word : Word) (b : Option Form) (count : ℕ) (bytes : List ℕ) (ls : List Lexeme) → count ≤ most_open
    → Lexes (Some (forms.Word word)) count bytes ls → Lexes b count (32 ∷ (word_bytes word ++ 32 ∷ bytes)) (lexemes.Word word ∷ ls)
word_between word b count bytes ls within h = lexes_blank 32 b count (word_bytes word ++ 32 ∷ bytes) (lexemes.Word word ∷ ls) refl (word_and_blank word b count bytes ls within h)

pub colon_step : (b : Option Form) (count : ℕ) (bytes : List ℕ) (ls : List Lexeme) → count ≤ most_open
    → Lexes (Some (forms.Sign signs.Colon)) count bytes ls → Lexes b count (58 ∷ 32 ∷ bytes) (lexemes.Sign signs.Colon ∷ ls)
unfolding sign_bytes
colon_step b count bytes ls within h = sign_and_blank signs.Colon (λ n. refl) b count bytes ls within h

pub star_step : (b : Option Form) (count : ℕ) (bytes : List ℕ) (ls : List Lexeme) → count ≤ most_open
    → Lexes (Some (forms.Sign signs.Star)) count bytes ls → Lexes b count (32 ∷ 42 ∷ 32 ∷ bytes) (lexemes.Sign signs.Star ∷ ls)
unfolding sign_bytes
star_step b count bytes ls within h = sign_between signs.Star (λ n. refl) b count bytes ls within h

pub becomes_step : (b : Option Form) (count : ℕ) (bytes : List ℕ) (ls : List Lexeme) → count ≤ most_open
    → Lexes (Some (forms.Sign signs.ColonEqual)) count bytes ls → Lexes b count (32 ∷ 58 ∷ 61 ∷ 32 ∷ bytes) (lexemes.Sign signs.ColonEqual ∷ ls)
unfolding sign_bytes
becomes_step b count bytes ls within h = sign_between signs.ColonEqual (λ n. refl) b count bytes ls within h
