-- The token at the front of a text, by its first byte, and what it says of the text.
use Rattle.std.proofs.Common.{◌≡◌, ℕ, ◌+◌, ◌≤◌, true, false, cond, ◌&&◌, eqb, List, [], ◌∷◌, length, take, drop, Option, Some, None, is_some, Result, Ok, Err, ℤ, pos, neg_ℤ, refl, ap, sym, ◌∙◌, arith, inl, inr, subst, nat_eq}
use Rattle.std.specs.List.{prefix_len, starts_with}
use Rattle.std.specs.Char.{is_ascii_digit}
use Rattle.std.specs.Str.Parse.{digits_value}
use Rattle.std.proofs.lemmas.Bool.{cases_Bool, cond_both, and_parts, and_cases, or_left, eqb-true, false≢true}
use Rattle.std.proofs.lemmas.List.{take-append-drop, take_at}
use Rattle.std.proofs.lemmas.List.Sums.{prefix_len-le-length}
use Rattle.gil_lexer.specs.Bytes.{quote, hash, minus, at_sign, is_blank, is_name_start, is_name_byte, begins, begins_comment, begins_negative}
use Rattle.gil_lexer.specs.Signs.{sign_bytes}
use Rattle.gil_lexer.specs.Reading.{word_of, sign_of, number_value, literal_len, word_form, name_at, marked_name, literal_form, number_at, sign_form, token_at}
use Rattle.gil_lexer.specs.Spelling.{IsName, AreDigits, SpellsNumber, Spells, takes_minus, MayBeginNumber, Ends, IsToken}
use Rattle.gil_lexer.specs.Faults.{BeginsNoToken, IsFault}
use Rattle.gil_lexer.specs.declared.words.Word.{Word}
use Rattle.gil_lexer.specs.declared.signs.Sign.{Sign}
use Rattle.gil_lexer.specs.declared.forms.Form.{Form}
use Rattle.gil_lexer.specs.declared.forms.Form.TheVariants as forms
use Rattle.gil_lexer.specs.declared.faults.LexKind.{LexKind}
use Rattle.gil_lexer.specs.declared.faults.LexKind.TheVariants as kinds
use Rattle.gil_lexer.proofs.ByteLemmas.{digit_no_mark}
use Rattle.gil_lexer.proofs.RunLemmas.{take_one_more, drop_one_more, run_passes, run_stops, begins_append}
use Rattle.gil_lexer.proofs.LiteralLaws.{Scanned, scan_says}
use Rattle.gil_lexer.proofs.NumberLemmas.{number_value_says, number_value_reads}
use Rattle.gil_lexer.proofs.SignLemmas.{sign_of_some, sign_of_within, sign_of_longest, sign_of_none, starts_splits, begins_sign, sign_begins}
use Rattle.gil_lexer.proofs.WordLemmas.{word_of_some, word_of_none}

-- What an answer says of a text, behind a token of the form before: the token at its front, or the fault there.
abbrev pub Says : Option Form → List ℕ → Result (Form × ℕ) LexKind → Type 0
Says before text (Ok found) = (found.1 ≤ length text) × IsToken before found.0 (take found.1 text) (drop found.1 text)
Says before text (Err kind) = IsFault kind before text

-- a token by its parts
says_token : (before : Option Form) (form : Form) (text : List ℕ) (n : ℕ) → n ≤ length text → Spells form (take n text) → Ends before form text (drop n text) → Says before text (Ok (form, n))
says_token before form text n within spelled ends =
    (within, (spelled, subst (λ x. Ends before form x (drop n text)) (sym (take-append-drop n text)) ends))

-- a name from the front on
name_run : (text : List ℕ) → begins is_name_start text ≡ true → IsName (take (prefix_len is_name_byte text) text)
name_run [] e = absurd (cc e)
name_run (b ∷ bs) e =
    let first : is_name_byte b ≡ true = or_left _ _ (or_left _ _ e) in
    (rw (first, take_one_more b bs (prefix_len is_name_byte bs)) e, run_passes is_name_byte (b ∷ bs))

word_says : (before : Option Form) (text : List ℕ) (found : Option Word) → begins is_name_start text ≡ true → word_of (take (prefix_len is_name_byte text) text) ≡ found → Says before text (Ok (word_form found, prefix_len is_name_byte text))
word_says before text None name e =
    says_token before forms.Name text _ (prefix_len-le-length is_name_byte text) (name_run text name, word_of_none _ e) (run_stops is_name_byte text)
word_says before text (Some word) name e =
    says_token before (forms.Word word) text _ (prefix_len-le-length is_name_byte text) (word_of_some _ word e) (run_stops is_name_byte text)

name_says : (before : Option Form) (text : List ℕ) → begins is_name_start text ≡ true → Says before text (Ok (name_at text))
unfolding name_at
name_says before text name = word_says before text _ name refl

sign_says : (before : Option Form) (b : ℕ) (bs : List ℕ) (found : Option Sign) → sign_of (b ∷ bs) ≡ found
    → begins_comment (b ∷ bs) ≡ false → (takes_minus before ≡ true → begins_negative (b ∷ bs) ≡ false) → (sign_of (b ∷ bs) ≡ None → BeginsNoToken (b ∷ bs))
    → Says before (b ∷ bs) (sign_form found)
sign_says before b bs None e comment apart fault = fault e
sign_says before b bs (Some sign) e comment apart fault =
    let splits = sign_of_some (b ∷ bs) sign e in
    says_token before (forms.Sign sign) (b ∷ bs) (length (sign_bytes sign)) (sign_of_within (b ∷ bs) sign e)
    (sym (ap (take (length (sign_bytes sign))) splits ∙ take_at (sign_bytes sign) (drop (length (sign_bytes sign)) (b ∷ bs)) _ refl))
    (sign_of_longest (b ∷ bs) sign e, comment, apart)

-- where no sign begins with the first byte
pub no_sign : (text : List ℕ) → begins begins_sign text ≡ false → (sign : Sign) → starts_with nat_eq text (sign_bytes sign) ≡ false
no_sign text e sign =
    elim (cases_Bool (starts_with nat_eq text (sign_bytes sign))) [
      | inl fits ↦
          let splits = starts_splits text (sign_bytes sign) fits in
          let first = begins_append begins_sign (sign_bytes sign) (drop (length (sign_bytes sign)) text) (sign_begins sign) in
          let same : begins begins_sign text ≡ true = ap (begins begins_sign) splits ∙ first in
          absurd (cc (e, same))
      | inr fails ↦ fails
    ]

literal_says : (before : Option Form) (bs : List ℕ) (r : Result ℕ LexKind) → Scanned [] bs r → Says before (quote ∷ bs) (literal_form r)
literal_says before bs (Ok n) (cs, within, all, e) =
    says_token before forms.Text (quote ∷ bs) (1 + n) (omega arith) (cs, (all, take_one_more quote bs n ∙ ap (λ x. quote ∷ x) e)) tt
literal_says before bs (Err kinds.Open) (cs, after, all, e, stops) = (cs, after, all, ap (λ x. quote ∷ x) e, stops)
literal_says before bs (Err kinds.Escape) (cs, after, all, e, stops) = (cs, after, all, ap (λ x. quote ∷ x) e, stops)
literal_says before bs (Err kinds.Byte) h = absurd h
literal_says before bs (Err kinds.Wide) h = absurd h
literal_says before bs (Err kinds.Memory) h = absurd h

no_logical : (bs : List ℕ) → begins is_name_start bs ≡ false → BeginsNoToken (hash ∷ bs)
no_logical bs e = record {
  some = λ is. cc is;
  blank = refl;
  name = refl;
  number = refl;
  text = refl;
  logical = λ after is. let same : bs ≡ after = cc is in rw (← same) e;
  procedure = λ after is. absurd (cc is);
  sign = no_sign (hash ∷ bs) refl;
}

no_procedure : (bs : List ℕ) → begins is_name_start bs ≡ false → BeginsNoToken (at_sign ∷ bs)
no_procedure bs e = record {
  some = λ is. cc is;
  blank = refl;
  name = refl;
  number = refl;
  text = refl;
  logical = λ after is. absurd (cc is);
  procedure = λ after is. let same : bs ≡ after = cc is in rw (← same) e;
  sign = no_sign (at_sign ∷ bs) refl;
}

logical_says : (before : Option Form) (bs : List ℕ) → Says before (hash ∷ bs) (marked_name forms.Logical bs)
logical_says before bs =
    cond_both (begins is_name_start bs) _ _ (Says before (hash ∷ bs))
    (λ e. says_token before forms.Logical (hash ∷ bs) (1 + prefix_len is_name_byte bs) (omega (arith, prefix_len-le-length is_name_byte bs))
    (take (prefix_len is_name_byte bs) bs, name_run bs e, take_one_more hash bs (prefix_len is_name_byte bs))
    (rw (drop_one_more hash bs (prefix_len is_name_byte bs)) (run_stops is_name_byte bs)))
    (λ e. no_logical bs e)

procedure_says : (before : Option Form) (bs : List ℕ) → Says before (at_sign ∷ bs) (marked_name forms.Procedure bs)
procedure_says before bs =
    cond_both (begins is_name_start bs) _ _ (Says before (at_sign ∷ bs))
    (λ e. says_token before forms.Procedure (at_sign ∷ bs) (1 + prefix_len is_name_byte bs) (omega (arith, prefix_len-le-length is_name_byte bs))
    (take (prefix_len is_name_byte bs) bs, name_run bs e, take_one_more at_sign bs (prefix_len is_name_byte bs))
    (rw (drop_one_more at_sign bs (prefix_len is_name_byte bs)) (run_stops is_name_byte bs)))
    (λ e. no_procedure bs e)

value_says : (before : Option Form) (text : List ℕ) (n : ℕ) (z : ℤ) → n ≤ length text → SpellsNumber (take n text) z → begins is_ascii_digit (drop n text) ≡ false → MayBeginNumber before text → (found : Option ℤ) → number_value (take n text) ≡ found → Says before text (cond (is_some found) (Ok (forms.Number, n)) (Err kinds.Wide))
value_says before text n z within spells stops may None e =
    (take n text, drop n text, z, sym (take-append-drop n text), spells, stops, may, λ fits. let reads = number_value_reads (take n text) z fits spells in cc (e, reads))
value_says before text n z within spells stops may (Some found) e =
    let says = number_value_says (take n text) found e in
    says_token before forms.Number text n within (found, says.0, says.1) (stops, may)

number_says : (before : Option Form) (text : List ℕ) (n : ℕ) (z : ℤ) → n ≤ length text → SpellsNumber (take n text) z → begins is_ascii_digit (drop n text) ≡ false → MayBeginNumber before text → Says before text (number_at text n)
unfolding number_at
number_says before text n z within spells stops may = value_says before text n z within spells stops may _ refl

-- digits from the front on
digit_run : (text : List ℕ) → begins is_ascii_digit text ≡ true → AreDigits (take (prefix_len is_ascii_digit text) text)
digit_run [] e = absurd (cc e)
digit_run (b ∷ bs) e = (rw (e, take_one_more b bs (prefix_len is_ascii_digit bs)) e, run_passes is_ascii_digit (b ∷ bs))

digits_says : (before : Option Form) (b : ℕ) (bs : List ℕ) → is_ascii_digit b ≡ true → Says before (b ∷ bs) (number_at (b ∷ bs) (prefix_len is_ascii_digit (b ∷ bs)))
digits_says before b bs e =
    let text = b ∷ bs in
    let n = prefix_len is_ascii_digit text in
    number_says before text n (pos (digits_value 10 (take n text))) (prefix_len-le-length is_ascii_digit text)
    (take n text, digit_run text e, inl (refl, refl)) (run_stops is_ascii_digit text)
    (λ negative. absurd (false≢true (sym (digit_no_mark b e).minus ∙ (and_parts (eqb b minus) (begins is_ascii_digit bs) negative).0)))

minus_says : (before : Option Form) (b : ℕ) (bs : List ℕ) → begins_negative (b ∷ bs) ≡ true → takes_minus before ≡ true → Says before (b ∷ bs) (number_at (b ∷ bs) (1 + prefix_len is_ascii_digit bs))
minus_says before b bs e takes =
    let parts = and_parts _ _ e in
    let m = prefix_len is_ascii_digit bs in
    number_says before (b ∷ bs) (1 + m) (neg_ℤ (pos (digits_value 10 (take m bs)))) (omega (arith, prefix_len-le-length is_ascii_digit bs))
    (take m bs, digit_run bs parts.1, inr (take_one_more b bs m ∙ ap (λ x. x ∷ take m bs) (eqb-true b minus parts.0), refl))
    (rw (drop_one_more b bs m) (run_stops is_ascii_digit bs))
    (λ _. takes)

-- where no form begins
none_begins : (b : ℕ) (bs : List ℕ) → is_blank b ≡ false → eqb b quote ≡ false → eqb b hash ≡ false → eqb b at_sign ≡ false → is_ascii_digit b ≡ false → is_name_start b ≡ false → sign_of (b ∷ bs) ≡ None → BeginsNoToken (b ∷ bs)
none_begins b bs blank no_quote no_hash no_at digit name none = record {
  some = λ is. cc is;
  blank = blank;
  name = name;
  number = digit;
  text = no_quote;
  logical = λ after is. let same : b ≡ hash = cc is in absurd (let other = rw same at no_hash in cc other);
  procedure = λ after is. let same : b ≡ at_sign = cc is in absurd (let other = rw same at no_at in cc other);
  sign = sign_of_none (b ∷ bs) none;
}

-- the answer says what stands at the front
pub token_at_says : (before : Option Form) (b : ℕ) (bs : List ℕ) → is_blank b ≡ false → begins_comment (b ∷ bs) ≡ false → Says before (b ∷ bs) (token_at (takes_minus before) (b ∷ bs))
unfolding token_at
token_at_says before b bs blank comment =
    let P : Result (Form × ℕ) LexKind → Type 0 = Says before (b ∷ bs) in
    cond_both (eqb b quote) _ _ P
    (λ is. subst (λ x. Says before (x ∷ bs) (literal_form (literal_len false bs))) (sym (eqb-true b quote is)) (literal_says before bs _ (scan_says false bs))) (λ no_quote.
    cond_both (eqb b hash) _ _ P
    (λ is. subst (λ x. Says before (x ∷ bs) (marked_name forms.Logical bs)) (sym (eqb-true b hash is)) (logical_says before bs)) (λ no_hash.
    cond_both (eqb b at_sign) _ _ P
    (λ is. subst (λ x. Says before (x ∷ bs) (marked_name forms.Procedure bs)) (sym (eqb-true b at_sign is)) (procedure_says before bs)) (λ no_at.
    cond_both (begins_negative (b ∷ bs) && takes_minus before) _ _ P
    (λ e. let parts = and_parts _ _ e in minus_says before b bs parts.0 parts.1) (λ no_minus.
    cond_both (is_ascii_digit b) _ _ P (λ e. digits_says before b bs e) (λ digit.
    cond_both (is_name_start b) _ _ P (λ e. name_says before (b ∷ bs) e) (λ name.
    sign_says before b bs _ refl comment
    (λ takes. elim (and_cases _ _ no_minus) [ inl apart ↦ apart | inr untaken ↦ absurd (cc (takes, untaken)) ])
    (none_begins b bs blank no_quote no_hash no_at digit name)))))))
