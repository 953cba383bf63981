-- A token at the front has a byte and lies within the text.
use Rattle.std.proofs.Common.{◌≡◌, ℕ, suc, ◌+◌, ◌<◌, ◌≤◌, Bool, true, false, ◌&&◌, eqb, List, [], ◌∷◌, length, take, Option, Some, None, is_some, Result, Ok, Err, IfOk, refl, arith}
use Rattle.std.specs.List.{prefix_len}
use Rattle.std.specs.Char.{is_ascii_digit}
use Rattle.std.proofs.lemmas.Bool.{cond_both, or_left}
use Rattle.std.proofs.lemmas.List.Sums.{prefix_len-le-length}
use Rattle.gil_lexer.specs.Bytes.{quote, hash, at_sign, backslash, is_name_start, is_name_byte, is_printable, is_escape, begins, begins_negative}
use Rattle.gil_lexer.specs.Reading.{one_more, literal_len, literal_form, number_value, marked_name, number_at, name_at, sign_of, sign_form, token_at}
use Rattle.gil_lexer.specs.declared.signs.Sign.{Sign}
use Rattle.gil_lexer.specs.declared.forms.Form.{Form}
use Rattle.gil_lexer.specs.declared.forms.Form.TheVariants as forms
use Rattle.gil_lexer.specs.declared.faults.LexKind.{LexKind}
use Rattle.gil_lexer.proofs.SignLemmas.{sign_nonempty, sign_of_within}

abbrev pub HasLength : ℕ → Result (Form × ℕ) LexKind → Type 0
HasLength n r = IfOk r (λ found. (0 < found.1) × (found.1 ≤ n))

one_more_within : (n : ℕ) (r : Result ℕ LexKind) → IfOk r (λ m. m ≤ n) → IfOk (one_more r) (λ m. m ≤ suc n)
one_more_within n (Ok m) h = omega arith
one_more_within n (Err kind) h = tt

pub literal_len_within : (escaped : Bool) (bs : List ℕ) → IfOk (literal_len escaped bs) (λ m. m ≤ length bs)
literal_len_within true [] = tt
literal_len_within true (b ∷ bs) =
    cond_both (is_escape b) _ _ (λ r. IfOk r (λ m. m ≤ suc (length bs))) (λ _. one_more_within _ _ (literal_len_within false bs)) (λ _. tt)
literal_len_within false [] = tt
literal_len_within false (b ∷ bs) =
    let P : Result ℕ LexKind → Type 0 = λ r. IfOk r (λ m. m ≤ suc (length bs)) in
    cond_both (eqb b quote) _ _ P (λ _. omega arith) (λ _.
    cond_both (eqb b backslash) _ _ P (λ _. one_more_within _ _ (literal_len_within true bs)) (λ _.
    cond_both (is_printable b) _ _ P (λ _. one_more_within _ _ (literal_len_within false bs)) (λ _. tt)))

literal_within : (n : ℕ) (r : Result ℕ LexKind) → IfOk r (λ m. m ≤ n) → HasLength (suc n) (literal_form r)
literal_within n (Ok m) h = (omega arith, omega arith)
literal_within n (Err kind) h = tt

marked_within : (form : Form) (after : List ℕ) → HasLength (suc (length after)) (marked_name form after)
marked_within form after =
    cond_both (begins is_name_start after) _ _ (HasLength (suc (length after)))
    (λ _. (omega arith, omega (arith, prefix_len-le-length is_name_byte after))) (λ _. tt)

number_within : (text : List ℕ) (n : ℕ) → 0 < n → n ≤ length text → HasLength (length text) (number_at text n)
unfolding number_at
number_within text n some fits = cond_both (is_some (number_value (take n text))) _ _ (HasLength (length text)) (λ _. (some, fits)) (λ _. tt)

-- a run that the first byte begins has a byte
pub prefix_len_some : (p : ℕ → Bool) (b : ℕ) (bs : List ℕ) → p b ≡ true → 0 < prefix_len p (b ∷ bs)
prefix_len_some p b bs e = rw e (omega arith)

sign_within : (text : List ℕ) (found : Option Sign) → sign_of text ≡ found → HasLength (length text) (sign_form found)
sign_within text None e = tt
sign_within text (Some sign) e = (sign_nonempty sign, sign_of_within text sign e)

pub token_at_within : (takes : Bool) (text : List ℕ) → HasLength (length text) (token_at takes text)
unfolding token_at name_at
token_at_within takes [] = tt
token_at_within takes (b ∷ bs) =
    let P : Result (Form × ℕ) LexKind → Type 0 = HasLength (suc (length bs)) in
    cond_both (eqb b quote) _ _ P (λ _. literal_within _ _ (literal_len_within false bs)) (λ _.
    cond_both (eqb b hash) _ _ P (λ _. marked_within forms.Logical bs) (λ _.
    cond_both (eqb b at_sign) _ _ P (λ _. marked_within forms.Procedure bs) (λ _.
    cond_both (begins_negative (b ∷ bs) && takes) _ _ P
    (λ _. number_within (b ∷ bs) (1 + prefix_len is_ascii_digit bs) (omega arith) (omega (arith, prefix_len-le-length is_ascii_digit bs))) (λ _.
    cond_both (is_ascii_digit b) _ _ P
    (λ e. number_within (b ∷ bs) (prefix_len is_ascii_digit (b ∷ bs)) (prefix_len_some is_ascii_digit b bs e) (prefix_len-le-length is_ascii_digit (b ∷ bs))) (λ _.
    cond_both (is_name_start b) _ _ P
    (λ e. (prefix_len_some is_name_byte b bs (or_left _ _ (or_left _ _ e)), prefix_len-le-length is_name_byte (b ∷ bs)))
    (λ _. sign_within (b ∷ bs) _ refl))))))

pub found_within : (takes : Bool) (text : List ℕ) (r : Result (Form × ℕ) LexKind) → r ≡ token_at takes text → HasLength (length text) r
found_within takes text r e = rw e (token_at_within takes text)
