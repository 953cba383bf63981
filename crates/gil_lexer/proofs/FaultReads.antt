-- A fault that stands at the front of a text is the answer there; and neither a token nor a fault begins with a blank.
use Rattle.std.proofs.Common.{◌≡◌, ◌≢◌, ℕ, ◌+◌, Bool, true, false, eqb, List, [], ◌∷◌, ◌++◌, length, take, Option, Some, None, Result, Ok, Err, ℤ, refl, ap, sym, ◌∙◌, inl, inr, subst, nat_eq}
use Rattle.std.specs.List.{starts_with}
use Rattle.std.specs.Char.{is_ascii_digit}
use Rattle.std.specs.Prelude.{FitsSigned}
use Rattle.std.specs.Int.{w64}
use Rattle.std.proofs.lemmas.Bool.{cases_Bool, and_parts, or_cases, eqb-true, false≢true, and_right, and_left, cond-false}
use Rattle.std.proofs.lemmas.List.{take_at}
use Rattle.gil_lexer.specs.Bytes.{quote, hash, minus, slash, at_sign, backslash, is_blank, is_name_start, is_printable, is_escape, begins, begins_comment}
use Rattle.gil_lexer.specs.Signs.{sign_bytes}
use Rattle.gil_lexer.specs.Reading.{sign_of, number_value, literal_len, one_more, marked_name, literal_form, number_at, token_at}
use Rattle.gil_lexer.specs.Spelling.{SpellsNumber, characters_bytes, takes_minus, MayBeginNumber, IsToken}
use Rattle.gil_lexer.specs.Faults.{BeginsNoToken, IsOpenText, IsFaultyEscape, IsWideNumber, IsFault}
use Rattle.gil_lexer.specs.declared.signs.Sign.{Sign}
use Rattle.gil_lexer.specs.declared.forms.Form.{Form}
use Rattle.gil_lexer.specs.declared.forms.Form.TheVariants as forms
use Rattle.gil_lexer.specs.declared.faults.LexKind.{LexKind}
use Rattle.gil_lexer.specs.declared.faults.LexKind.TheVariants as kinds
use Rattle.gil_lexer.proofs.RunLemmas.{take_one_more, begins_append}
use Rattle.gil_lexer.proofs.LiteralLemmas.{more}
use Rattle.gil_lexer.proofs.LiteralLaws.{scan_characters}
use Rattle.gil_lexer.proofs.NumberLemmas.{number_value_says, spells_one}
use Rattle.gil_lexer.specs.Signs.{all_signs}
use Rattle.gil_lexer.specs.declared.signs.Sign.TheVariants as signs
use Rattle.std.specs.List.{find}
use Rattle.gil_lexer.proofs.BlankLaws.{IsStart}
use Rattle.gil_lexer.proofs.TokenReads.{token_at_reads, logical_dispatch, procedure_dispatch, literal_dispatch, digits_dispatch, minus_dispatch}

-- a blank is no token
blank_answer : (takes : Bool) (b : ℕ) (bs : List ℕ) → is_blank b ≡ true → token_at takes (b ∷ bs) ≡ Err kinds.Byte
unfolding token_at sign_of all_signs sign_bytes
blank_answer takes b bs e =
    elim (or_cases _ _ e) [
      | inl first ↦ elim (or_cases _ _ first) [
        | inl second ↦ elim (or_cases _ _ second) [
          | inl is ↦ subst (λ x. token_at takes (x ∷ bs) ≡ Err kinds.Byte) (sym (eqb-true b 32 is)) refl
          | inr is ↦ subst (λ x. token_at takes (x ∷ bs) ≡ Err kinds.Byte) (sym (eqb-true b 9 is)) refl
        ]
        | inr is ↦ subst (λ x. token_at takes (x ∷ bs) ≡ Err kinds.Byte) (sym (eqb-true b 13 is)) refl
      ]
      | inr is ↦ subst (λ x. token_at takes (x ∷ bs) ≡ Err kinds.Byte) (sym (eqb-true b 10 is)) refl
    ]

-- the first byte of a comment is taken for a sign
slash_answer : (takes : Bool) (bs : List ℕ) → token_at takes (slash ∷ slash ∷ bs) ≡ Ok (forms.Sign signs.Slash, 1)
unfolding token_at sign_of all_signs sign_bytes
slash_answer takes bs = refl

comment_answer : (takes : Bool) (text : List ℕ) → begins_comment text ≡ true → token_at takes text ≡ Ok (forms.Sign signs.Slash, 1)
comment_answer takes [] e = absurd (cc e)
comment_answer takes (b ∷ []) e = absurd (false≢true (sym (and_right (eqb b slash) false refl) ∙ e))
comment_answer takes (b ∷ d ∷ bs) e =
    let parts = and_parts (eqb b slash) (eqb d slash) e in
    let slashed : b ∷ d ∷ bs ≡ slash ∷ slash ∷ bs = rw (eqb-true b slash parts.0, eqb-true d slash parts.1) refl in
    ap (token_at takes) slashed ∙ slash_answer takes bs

empty_answer : (takes : Bool) → token_at takes [] ≡ Err kinds.Byte
unfolding token_at
empty_answer takes = refl

-- where the answer is neither that fault nor that sign, the text begins with no blank or comment
pub record Begins (text : List ℕ) : Type 0 where
  pub start : IsStart text
  pub some : text ≢ []

begins_from : (takes : Bool) (text : List ℕ) (answer : Result (Form × ℕ) LexKind) → token_at takes text ≡ answer → answer ≢ Err kinds.Byte → begins_comment text ≡ false → Begins text
begins_from takes [] answer e other comment = absurd (other (sym e ∙ empty_answer takes))
begins_from takes (b ∷ bs) answer e other comment =
    record {
      start = record {
        blank = elim (cases_Bool (is_blank b)) [
          | inl blank ↦ absurd (other (sym e ∙ blank_answer takes b bs blank))
          | inr token ↦ token
        ];
        comment = comment;
      };
      some = λ is. cc is;
    }

-- the parts of an answer
abbrev pub form_of : Result (Form × ℕ) LexKind → Form
form_of (Ok found) = found.0
form_of (Err kind) = forms.Name

abbrev pub length_of : Result (Form × ℕ) LexKind → ℕ
length_of (Ok found) = found.1
length_of (Err kind) = 0

-- no token but the sign `/` begins with a `/`, and behind that stands none
no_comment : (before : Option Form) (form : Form) (text rest : List ℕ) → IsToken before form text rest → begins_comment (text ++ rest) ≡ false
no_comment before form text rest h =
    elim (cases_Bool (begins_comment (text ++ rest))) [
      | inl comment ↦
          let answer = comment_answer (takes_minus before) (text ++ rest) comment in
          let reads = token_at_reads before form text rest h in
          let joined : Path (Result (Form × ℕ) LexKind) (Ok (form, length text)) (Ok (forms.Sign signs.Slash, 1)) = sym reads ∙ answer in
          let is : form ≡ forms.Sign signs.Slash = ap form_of joined in
          let as_sign = subst (λ f. IsToken before f text rest) is h in
          as_sign.1.1
      | inr other ↦ other
    ]

pub token_begins : (before : Option Form) (form : Form) (text rest : List ℕ) → IsToken before form text rest → Begins (text ++ rest)
token_begins before form text rest h =
    begins_from (takes_minus before) (text ++ rest) (Ok (form, length text)) (token_at_reads before form text rest h) (λ is. cc is) (no_comment before form text rest h)

-- where no sign stands, none is found
no_find : {X : Type 0} (p : X → Bool) (xs : List X) → ((x : X) → p x ≡ false) → find p xs ≡ None
no_find p [] none = refl
no_find p (x ∷ xs) none = rw (none x) (no_find p xs none)

no_sign_of : (text : List ℕ) → ((sign : Sign) → starts_with nat_eq text (sign_bytes sign) ≡ false) → sign_of text ≡ None
unfolding sign_of
no_sign_of text none = no_find (λ s. starts_with nat_eq text (sign_bytes s)) all_signs none

minus_stands : (bs : List ℕ) → starts_with nat_eq (minus ∷ bs) (sign_bytes signs.Minus) ≡ true
unfolding sign_bytes
minus_stands bs = refl

slash_stands : (bs : List ℕ) → starts_with nat_eq (slash ∷ bs) (sign_bytes signs.Slash) ≡ true
unfolding sign_bytes
slash_stands bs = refl

no_minus : (b : ℕ) (bs : List ℕ) → BeginsNoToken (b ∷ bs) → eqb b minus ≡ false
no_minus b bs h =
    elim (cases_Bool (eqb b minus)) [
      | inl is ↦
          let none : starts_with nat_eq (minus ∷ bs) (sign_bytes signs.Minus) ≡ false = subst (λ x. starts_with nat_eq (x ∷ bs) (sign_bytes signs.Minus) ≡ false) (eqb-true b minus is) (h.sign signs.Minus) in
          absurd (false≢true (sym none ∙ minus_stands bs))
      | inr other ↦ other
    ]

no_slash : (b : ℕ) (bs : List ℕ) → BeginsNoToken (b ∷ bs) → eqb b slash ≡ false
no_slash b bs h =
    elim (cases_Bool (eqb b slash)) [
      | inl is ↦
          let none : starts_with nat_eq (slash ∷ bs) (sign_bytes signs.Slash) ≡ false = subst (λ x. starts_with nat_eq (x ∷ bs) (sign_bytes signs.Slash) ≡ false) (eqb-true b slash is) (h.sign signs.Slash) in
          absurd (false≢true (sym none ∙ slash_stands bs))
      | inr other ↦ other
    ]

unmarked_reads : (form : Form) (after : List ℕ) → begins is_name_start after ≡ false → marked_name form after ≡ Err kinds.Byte
unmarked_reads form after e = cond-false _ _ _ e

last_reads : (takes : Bool) (b : ℕ) (bs : List ℕ) → BeginsNoToken (b ∷ bs) → eqb b hash ≡ false → eqb b at_sign ≡ false → token_at takes (b ∷ bs) ≡ Err kinds.Byte
unfolding token_at
last_reads takes b bs h no_hash no_at = rw (h.text, no_hash, no_at, no_minus b bs h, h.number, h.name, no_sign_of (b ∷ bs) h.sign) refl

byte_reads : (takes : Bool) (text : List ℕ) → BeginsNoToken text → token_at takes text ≡ Err kinds.Byte
byte_reads takes [] h = absurd (h.some refl)
byte_reads takes (b ∷ bs) h =
    elim (cases_Bool (eqb b hash)) [
      | inl is ↦
          let same = eqb-true b hash is in
          ap (λ x. token_at takes (x ∷ bs)) same ∙ logical_dispatch takes bs ∙ unmarked_reads forms.Logical bs (h.logical bs (ap (λ x. x ∷ bs) same))
      | inr no_hash ↦ elim (cases_Bool (eqb b at_sign)) [
        | inl is ↦
            let same = eqb-true b at_sign is in
            ap (λ x. token_at takes (x ∷ bs)) same ∙ procedure_dispatch takes bs ∙ unmarked_reads forms.Procedure bs (h.procedure bs (ap (λ x. x ∷ bs) same))
        | inr no_at ↦ last_reads takes b bs h no_hash no_at
      ]
    ]

-- behind the characters of a literal
open_end : (after : List ℕ) → begins is_printable after ≡ false → literal_len false after ≡ Err kinds.Open
open_end [] e = refl
open_end (b ∷ bs) e =
    let no_quote : eqb b quote ≡ false = elim (cases_Bool (eqb b quote)) [ inl is ↦ absurd (false≢true (sym e ∙ rw (eqb-true b quote is) refl)) | inr other ↦ other ] in
    let no_backslash : eqb b backslash ≡ false = elim (cases_Bool (eqb b backslash)) [ inl is ↦ absurd (false≢true (sym e ∙ rw (eqb-true b backslash is) refl)) | inr other ↦ other ] in
    cond-false _ _ _ no_quote ∙ cond-false _ _ _ no_backslash ∙ cond-false _ _ _ e

faulty_escape : (after : List ℕ) → begins is_escape after ≡ false → literal_len true after ≡ Err kinds.Escape
faulty_escape [] e = refl
faulty_escape (b ∷ bs) e = cond-false _ _ _ e

open_reads : (takes : Bool) (text : List ℕ) → IsOpenText text → token_at takes text ≡ Err kinds.Open
open_reads takes text (cs, after, all, is, stops) =
    ap (token_at takes) is ∙ literal_dispatch takes (characters_bytes cs ++ after)
    ∙ ap literal_form (scan_characters cs after all ∙ ap (more (length (characters_bytes cs))) (open_end after stops))

escape_reads : (takes : Bool) (text : List ℕ) → IsFaultyEscape text → token_at takes text ≡ Err kinds.Escape
escape_reads takes text (cs, after, all, is, stops) =
    ap (token_at takes) is ∙ literal_dispatch takes (characters_bytes cs ++ backslash ∷ after)
    ∙ ap literal_form (scan_characters cs (backslash ∷ after) all ∙ ap (λ r. more (length (characters_bytes cs)) (one_more r)) (faulty_escape after stops))

wide_value : (text : List ℕ) (z : ℤ) (found : Option ℤ) → number_value text ≡ found → SpellsNumber text z → (FitsSigned w64 z → ⊥) → found ≡ None
wide_value text z None e spells wide = refl
wide_value text z (Some other) e spells wide =
    let says = number_value_says text other e in
    let same : other ≡ z = spells_one text other z says.1 spells in
    absurd (wide (subst (FitsSigned w64) same says.0))

wide_number : (text : List ℕ) (n : ℕ) (z : ℤ) (front : List ℕ) → take n text ≡ front → SpellsNumber front z → (FitsSigned w64 z → ⊥) → number_at text n ≡ Err kinds.Wide
unfolding number_at
wide_number text n z front is spells wide = rw (is, wide_value front z (number_value front) refl spells wide) refl

wide_reads : (before : Option Form) (text : List ℕ) → IsWideNumber before text → token_at (takes_minus before) text ≡ Err kinds.Wide
wide_reads before text (front, after, z, split, (digits, h, inl (is, value)), stops, may, wide) =
    let shape : text ≡ digits ++ after = split ∙ ap (λ x. x ++ after) is in
    ap (token_at (takes_minus before)) shape ∙ digits_dispatch (takes_minus before) digits after h stops
    ∙ wide_number (digits ++ after) (length digits) z digits (take_at digits after _ refl) (digits, h, inl (refl, value)) wide
wide_reads before text (front, after, z, split, (digits, h, inr (is, value)), stops, may, wide) =
    let shape : text ≡ minus ∷ (digits ++ after) = split ∙ ap (λ x. x ++ after) is in
    let on = (subst (MayBeginNumber before) shape may) (begins_append is_ascii_digit digits after h.0) in
    let taken = take_one_more minus (digits ++ after) (length digits) ∙ ap (λ x. minus ∷ x) (take_at digits after (length digits) refl) in
    ap (token_at (takes_minus before)) shape ∙ minus_dispatch (takes_minus before) digits after h stops on
    ∙ wide_number (minus ∷ (digits ++ after)) (1 + length digits) z (minus ∷ digits) taken (digits, h, inr (refl, value)) wide

-- a fault at the front is the answer
pub fault_reads : (kind : LexKind) (before : Option Form) (text : List ℕ) → kind ≢ kinds.Memory → IsFault kind before text → token_at (takes_minus before) text ≡ Err kind
fault_reads kinds.Byte before text other h = byte_reads (takes_minus before) text h
fault_reads kinds.Open before text other h = open_reads (takes_minus before) text h
fault_reads kinds.Escape before text other h = escape_reads (takes_minus before) text h
fault_reads kinds.Wide before text other h = wide_reads before text h
fault_reads kinds.Memory before text other h = absurd (other refl)

byte_begins : (text : List ℕ) → BeginsNoToken text → Begins text
byte_begins [] h = absurd (h.some refl)
byte_begins (b ∷ bs) h = record {
  start = record { blank = h.blank; comment = and_left _ _ (no_slash b bs h) };
  some = h.some;
}

other_begins : (takes : Bool) (text : List ℕ) (kind : LexKind) → token_at takes text ≡ Err kind → kind ≢ kinds.Byte → Begins text
other_begins takes text kind e other =
    begins_from takes text (Err kind) e (λ is. other (cc is)) (elim (cases_Bool (begins_comment text)) [
      | inl comment ↦ absurd (let answer = comment_answer takes text comment in cc (e, answer))
      | inr none ↦ none
    ])

pub fault_begins : (kind : LexKind) (before : Option Form) (text : List ℕ) → kind ≢ kinds.Memory → IsFault kind before text → Begins text
fault_begins kinds.Byte before text other h = byte_begins text h
fault_begins kinds.Open before text other h = other_begins (takes_minus before) text kinds.Open (open_reads (takes_minus before) text h) (λ is. cc is)
fault_begins kinds.Escape before text other h = other_begins (takes_minus before) text kinds.Escape (escape_reads (takes_minus before) text h) (λ is. cc is)
fault_begins kinds.Wide before text other h = other_begins (takes_minus before) text kinds.Wide (wide_reads before text h) (λ is. cc is)
fault_begins kinds.Memory before text other h = absurd (other refl)

-- where a fault stands, no token stands
pub no_token : (kind : LexKind) (before : Option Form) (form : Form) (text rest : List ℕ) → kind ≢ kinds.Memory → IsFault kind before (text ++ rest) → IsToken before form text rest → ⊥
no_token kind before form text rest other fault token =
    let stops = fault_reads kind before (text ++ rest) other fault in
    let reads = token_at_reads before form text rest token in
    cc (stops, reads)
