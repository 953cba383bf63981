-- A token that stands at the front of a text is the answer there, and so is a fault.
use Rattle.std.proofs.Common.{◌≡◌, ◌≢◌, ℕ, suc, ◌+◌, Bool, true, false, ◌&&◌, eqb, List, [], ◌∷◌, ◌++◌, length, take, append_assoc, length-append, Option, Some, None, Result, Ok, ℤ, pos, neg_ℤ, refl, ap, sym, ◌∙◌, arith, inl, inr, subst}
use Rattle.std.specs.Char.{is_ascii_digit}
use Rattle.std.specs.Str.Parse.{digits_value}
use Rattle.std.specs.Prelude.{FitsSigned}
use Rattle.std.specs.Int.{w64}
use Rattle.std.proofs.lemmas.Bool.{and_parts, not-true}
use Rattle.std.proofs.lemmas.List.{take_at}
use Rattle.gil_lexer.specs.Bytes.{quote, hash, minus, at_sign, is_name_start, is_name_byte, begins, begins_negative}
use Rattle.gil_lexer.specs.Words.{word_bytes}
use Rattle.gil_lexer.specs.Signs.{sign_bytes}
use Rattle.gil_lexer.specs.Reading.{word_of, sign_of, literal_len, word_form, name_at, marked_name, literal_form, number_at, sign_form, token_at}
use Rattle.gil_lexer.specs.Spelling.{IsName, AreDigits, SpellsNumber, AreCharacters, characters_bytes, takes_minus, Ends, IsToken}
use Rattle.gil_lexer.specs.declared.words.Word.{Word}
use Rattle.gil_lexer.specs.declared.signs.Sign.{Sign}
use Rattle.gil_lexer.specs.declared.forms.Form.{Form}
use Rattle.gil_lexer.specs.declared.forms.Form.TheVariants as forms
use Rattle.gil_lexer.specs.declared.faults.LexKind.{LexKind}
use Rattle.gil_lexer.proofs.ByteLemmas.{name_start_no_mark, name_start_no_digit, digit_no_mark}
use Rattle.gil_lexer.proofs.RunLemmas.{take_one_more, run_is, begins_append}
use Rattle.gil_lexer.proofs.LiteralLaws.{scan_characters}
use Rattle.gil_lexer.proofs.NumberLemmas.{number_value_reads}
use Rattle.gil_lexer.proofs.SignLemmas.{sign_of_reads, begins_sign, sign_begins}
use Rattle.gil_lexer.proofs.WordLemmas.{word_of_some, word_of-spelling, word_is_name}

-- the answer at the first byte of a name
name_dispatch : (takes : Bool) (b : ℕ) (bs : List ℕ) → is_name_start b ≡ true → token_at takes (b ∷ bs) ≡ Ok (name_at (b ∷ bs))
unfolding token_at
name_dispatch takes b bs e =
    let m = name_start_no_mark b e in
    rw (m.quote, m.hash, m.at_sign, m.minus, name_start_no_digit b e, e) refl

name_reads : (takes : Bool) (text rest : List ℕ) → IsName text → begins is_name_byte rest ≡ false → token_at takes (text ++ rest) ≡ Ok (word_form (word_of text), length text)
unfolding name_at
name_reads takes [] rest name ends = absurd (cc (name.0))
name_reads takes (b ∷ bs) rest name ends =
    let whole = run_is is_name_byte (b ∷ bs) rest name.1 ends in
    let front = take_at (b ∷ bs) rest (length (b ∷ bs)) refl in
    name_dispatch takes b (bs ++ rest) name.0 ∙ ap Ok (rw (whole, front) refl)

no_word : (text : List ℕ) (found : Option Word) → word_of text ≡ found → ((word : Word) → word_bytes word ≢ text) → found ≡ None
no_word text None e free = refl
no_word text (Some word) e free = absurd (free word (word_of_some text word e))

-- a number at the front
number_reads : (text : List ℕ) (n : ℕ) (z : ℤ) (front : List ℕ) → take n text ≡ front → FitsSigned w64 z → SpellsNumber front z → number_at text n ≡ Ok (forms.Number, n)
unfolding number_at
number_reads text n z front is fits spells = rw (is, number_value_reads front z fits spells) refl

-- the answer at a digit, and at a `-` that belongs to a number
pub digits_dispatch : (takes : Bool) (digits rest : List ℕ) → AreDigits digits → begins is_ascii_digit rest ≡ false → token_at takes (digits ++ rest) ≡ number_at (digits ++ rest) (length digits)
unfolding token_at
digits_dispatch takes [] rest h ends = absurd (cc (h.0))
digits_dispatch takes (b ∷ bs) rest h ends =
    let m = digit_no_mark b h.0 in
    let whole = rw h.0 at (run_is is_ascii_digit (b ∷ bs) rest h.1 ends) in
    rw (m.quote, m.hash, m.at_sign, m.minus, h.0) (ap (number_at (b ∷ (bs ++ rest))) whole)

pub minus_dispatch : (takes : Bool) (digits rest : List ℕ) → AreDigits digits → begins is_ascii_digit rest ≡ false → takes ≡ true → token_at takes (minus ∷ (digits ++ rest)) ≡ number_at (minus ∷ (digits ++ rest)) (1 + length digits)
unfolding token_at
minus_dispatch takes digits rest h ends on =
    let whole = run_is is_ascii_digit digits rest h.1 ends in
    let more = begins_append is_ascii_digit digits rest h.0 in
    rw (on, more, whole) refl

sign_dispatch : (takes : Bool) (text : List ℕ) → begins begins_sign text ≡ true → (begins_negative text && takes) ≡ false → token_at takes text ≡ sign_form (sign_of text)
unfolding token_at
sign_dispatch takes [] e apart = absurd (cc e)
sign_dispatch takes (b ∷ bs) e apart =
    let five = and_parts _ _ e in
    let four = and_parts _ _ five.0 in
    let three = and_parts _ _ four.0 in
    let two = and_parts _ _ three.0 in
    let one = and_parts _ _ two.0 in
    let no_quote : eqb b quote ≡ false = not-true _ one.0 in
    let no_hash : eqb b hash ≡ false = not-true _ one.1 in
    let no_at : eqb b at_sign ≡ false = not-true _ two.1 in
    let digit : is_ascii_digit b ≡ false = not-true _ three.1 in
    let name : is_name_start b ≡ false = not-true _ four.1 in
    rw (no_quote, no_hash, no_at, apart, digit, name) refl

apart_from : (negative takes : Bool) → (takes ≡ true → negative ≡ false) → (negative && takes) ≡ false
apart_from true true h = h refl
apart_from true false h = refl
apart_from false takes h = refl

pub logical_dispatch : (takes : Bool) (after : List ℕ) → token_at takes (hash ∷ after) ≡ marked_name forms.Logical after
unfolding token_at
logical_dispatch takes after = refl

pub procedure_dispatch : (takes : Bool) (after : List ℕ) → token_at takes (at_sign ∷ after) ≡ marked_name forms.Procedure after
unfolding token_at
procedure_dispatch takes after = refl

pub literal_dispatch : (takes : Bool) (after : List ℕ) → token_at takes (quote ∷ after) ≡ literal_form (literal_len false after)
unfolding token_at
literal_dispatch takes after = refl

same_length : (form : Form) (m n : ℕ) → m ≡ n → Path (Result (Form × ℕ) LexKind) (Ok (form, m)) (Ok (form, n))
same_length form m n e = ap (λ k. Ok (form, k)) e

marked_reads : (form : Form) (name rest : List ℕ) → IsName name → begins is_name_byte rest ≡ false → marked_name form (name ++ rest) ≡ Ok (form, suc (length name))
marked_reads form name rest is_name ends =
    let some = begins_append is_name_start name rest is_name.0 in
    let whole = run_is is_name_byte name rest is_name.1 ends in
    rw (some, whole) (same_length form _ _ (omega arith))

literal_reads : (cs rest : List ℕ) → AreCharacters cs → literal_form (literal_len false ((characters_bytes cs ++ quote ∷ []) ++ rest)) ≡ Ok (forms.Text, suc (length (characters_bytes cs ++ quote ∷ [])))
literal_reads cs rest all =
    let scan = scan_characters cs (quote ∷ rest) all in
    let shape = append_assoc (characters_bytes cs) (quote ∷ []) rest in
    let count = length-append (characters_bytes cs) (quote ∷ []) in
    ap (λ x. literal_form (literal_len false x)) shape ∙ ap literal_form scan ∙ same_length forms.Text _ _ (omega (arith, count))

minus_reads : (takes : Bool) (digits rest : List ℕ) (z : ℤ) → FitsSigned w64 z → AreDigits digits → z ≡ neg_ℤ (pos (digits_value 10 digits)) → begins is_ascii_digit rest ≡ false → takes ≡ true → token_at takes (minus ∷ (digits ++ rest)) ≡ Ok (forms.Number, suc (length digits))
minus_reads takes digits rest z fits h value ends on =
    let front = take_one_more minus (digits ++ rest) (length digits) ∙ ap (λ x. minus ∷ x) (take_at digits rest (length digits) refl) in
    minus_dispatch takes digits rest h ends on
    ∙ number_reads (minus ∷ (digits ++ rest)) (1 + length digits) z (minus ∷ digits) front fits (digits, h, inr (refl, value))
    ∙ same_length forms.Number _ _ (omega arith)

sign_reads : (before : Option Form) (sign : Sign) (rest : List ℕ) → Ends before (forms.Sign sign) (sign_bytes sign ++ rest) rest → token_at (takes_minus before) (sign_bytes sign ++ rest) ≡ Ok (forms.Sign sign, length (sign_bytes sign))
sign_reads before sign rest (longest, comment, apart) =
    let first = begins_append begins_sign (sign_bytes sign) rest (sign_begins sign) in
    sign_dispatch (takes_minus before) (sign_bytes sign ++ rest) first (apart_from _ _ apart) ∙ ap sign_form (sign_of_reads sign rest longest)

-- a token at the front is the answer
pub token_at_reads : (before : Option Form) (form : Form) (text rest : List ℕ) → IsToken before form text rest → token_at (takes_minus before) (text ++ rest) ≡ Ok (form, length text)
token_at_reads before forms.Name text rest ((name, free), ends) =
    name_reads _ text rest name ends ∙ ap (λ found. Ok (word_form found, length text)) (no_word text (word_of text) refl free)
token_at_reads before (forms.Word word) text rest (is, ends) =
    let name : IsName text = subst IsName is (word_is_name word) in
    name_reads _ text rest name ends ∙ ap (λ found. Ok (word_form found, length text)) (ap word_of (sym is) ∙ word_of-spelling word)
token_at_reads before forms.Logical text rest ((name, is_name, is), ends) =
    rw is (logical_dispatch _ (name ++ rest) ∙ marked_reads forms.Logical name rest is_name ends)
token_at_reads before forms.Procedure text rest ((name, is_name, is), ends) =
    rw is (procedure_dispatch _ (name ++ rest) ∙ marked_reads forms.Procedure name rest is_name ends)
token_at_reads before forms.Number text rest ((z, fits, (digits, h, inl (is, value))), (ends, may)) =
    rw is (digits_dispatch _ digits rest h ends ∙ number_reads (digits ++ rest) (length digits) z digits (take_at digits rest _ refl) fits (digits, h, inl (refl, value)))
token_at_reads before forms.Number text rest ((z, fits, (digits, h, inr (is, value))), (ends, may)) =
    let on = (rw is at may) (begins_append is_ascii_digit digits rest h.0) in
    rw is (minus_reads _ digits rest z fits h value ends on)
token_at_reads before forms.Text text rest ((cs, (all, is)), ends) =
    rw is (literal_dispatch _ ((characters_bytes cs ++ quote ∷ []) ++ rest) ∙ literal_reads cs rest all)
token_at_reads before (forms.Sign sign) text rest (is, ends) =
    subst (λ t. token_at (takes_minus before) (t ++ rest) ≡ Ok (forms.Sign sign, length t)) is
    (sign_reads before sign rest (subst (λ t. Ends before (forms.Sign sign) (t ++ rest) rest) (sym is) ends))
