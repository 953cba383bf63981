-- Numbers.
use Rattle.std.proofs.Common.{cond, ◌≡◌, ℕ, ◌+◌, ◌*◌, ◌^◌, ◌<◌, ◌≤◌, false, not, ◌&&◌, List, [], ◌∷◌, length, drop, get_or, refl, sym, ◌∙◌, None, arith, le_refl, le_trans, nat_eq}
use Rattle.std.proofs.lemmas.Bool.{and_right, lt-leb}
use Rattle.std.proofs.lemmas.List.{at_drop_more}
use Rattle.std.proofs.lemmas.Option.{same_Some}
use Rattle.std.specs.Char.{digit_value, is_ascii_digit}
use Rattle.std.specs.List.{list_all}
use Rattle.std.specs.Str.Parse.{digits_value, digits_value_after}
use Rattle.std.proofs.Common.{true, false, Some, Option, ℤ, pos, neg_ℤ, inl, inr, eqb, ltb, leb, subst}
use Rattle.std.specs.Prelude.{FitsSigned, IfSome, IfNone}
use Rattle.std.specs.Int.{w64}
use Rattle.std.proofs.lemmas.Int.{ints}
use Rattle.std.proofs.lemmas.Bool.{cases_Bool, and_parts, ltb-true, leb-true, lt-ltb, le-leb, not-true, ne_eqb, eqb-true}
use Rattle.gil_lexer.specs.Bytes.{minus, begins}
use Rattle.gil_lexer.specs.Spelling.{AreDigits, SpellsNumber}
use Rattle.gil_lexer.proofs.ByteLemmas.{digit_no_mark}
use Rattle.gil_lexer.specs.Reading.{magnitude, positive, negative, number_value}

-- digits behind a number only make it larger
pub le-digits_value_after : (n : ℕ) (ds : List ℕ) → n ≤ digits_value_after 10 n ds
le-digits_value_after n [] = le_refl n
le-digits_value_after n (d ∷ ds) = le_trans (omega arith) (le-digits_value_after (n * 10 + digit_value d) ds)

-- a number that is too large has no magnitude
pub magnitude_large : (ds : List ℕ) → 2 ^ 63 < digits_value 10 ds → None ≡ magnitude ds
magnitude_large ds large = rw (lt-leb (digits_value 10 ds) (2 ^ 63) large, and_right (list_all is_ascii_digit ds && not (nat_eq (length ds) 0)) false refl) refl

-- the number so far is too large
pub too_large : (ds : List ℕ) (i n : ℕ) → i < length ds → digits_value_after 10 n (drop i ds) ≡ digits_value 10 ds → 2 ^ 63 < n * 10 + digit_value (get_or ds i 0) → None ≡ magnitude ds
too_large ds i n lt kept large =
    let turn = at_drop_more (digits_value_after 10 n) ds i 0 lt in
    let grown = le-digits_value_after (n * 10 + digit_value (get_or ds i 0)) (drop (i + 1) ds) in
    let is : digits_value_after 10 (n * 10 + digit_value (get_or ds i 0)) (drop (i + 1) ds) ≡ digits_value 10 ds = sym turn ∙ kept in
    magnitude_large ds (omega arith)

fits_positive : (n : ℕ) → n < 2 ^ 63 → FitsSigned w64 (pos n)
fits_positive n small = omega (arith, ints)

positive_fits : (n : ℕ) → FitsSigned w64 (pos n) → n < 2 ^ 63
positive_fits n fits = omega (arith, ints)

fits_negative : (n : ℕ) → n ≤ 2 ^ 63 → FitsSigned w64 (neg_ℤ (pos n))
fits_negative n small = omega (arith, ints)

negative_fits : (n : ℕ) → FitsSigned w64 (neg_ℤ (pos n)) → n ≤ 2 ^ 63
negative_fits n fits = omega (arith, ints)

-- digits and their number
digits_begin : (ds : List ℕ) → list_all is_ascii_digit ds ≡ true → eqb (length ds) 0 ≡ false → begins is_ascii_digit ds ≡ true
digits_begin [] all some = cc
digits_begin (d ∷ ds) all some = (and_parts _ _ all).0

magnitude_some : (ds : List ℕ) (n : ℕ) → magnitude ds ≡ Some n → AreDigits ds × (n ≡ digits_value 10 ds) × (n ≤ 2 ^ 63)
magnitude_some ds n e =
    elim (cases_Bool (list_all is_ascii_digit ds && not (eqb (length ds) 0) && leb (digits_value 10 ds) (2 ^ 63))) [
      | inl test ↦
          let outer = and_parts (list_all is_ascii_digit ds && not (eqb (length ds) 0)) (leb (digits_value 10 ds) (2 ^ 63)) test in
          let inner = and_parts _ _ outer.0 in
          let is : Some (digits_value 10 ds) ≡ Some n = rw test at e in
          let same : digits_value 10 ds ≡ n = same_Some (digits_value 10 ds) n is in
          let small = leb-true _ _ outer.1 in
          ((digits_begin ds inner.0 (not-true _ inner.1), inner.0), sym same, rw (sym same) small)
      | inr test ↦ let is = rw test at e in cc
    ]

digits_some : (ds : List ℕ) → begins is_ascii_digit ds ≡ true → eqb (length ds) 0 ≡ false
digits_some [] e = cc
digits_some (d ∷ ds) e = ne_eqb (length (d ∷ ds)) 0 (λ none. omega arith)

magnitude_digits : (ds : List ℕ) → AreDigits ds → digits_value 10 ds ≤ 2 ^ 63 → magnitude ds ≡ Some (digits_value 10 ds)
magnitude_digits ds h small = rw (h.1, digits_some ds h.0, le-leb (digits_value 10 ds) (2 ^ 63) small) refl

negative_some : (o : Option ℕ) (z : ℤ) → negative o ≡ Some z → (n : ℕ) × (o ≡ Some n) × (z ≡ neg_ℤ (pos n))
negative_some None z e = absurd (cc e)
negative_some (Some n) z e = (n, refl, cc)

positive_some : (o : Option ℕ) (z : ℤ) → positive o ≡ Some z → (n : ℕ) × (o ≡ Some n) × (z ≡ pos n) × (n < 2 ^ 63)
positive_some None z e = absurd (cc e)
positive_some (Some n) z e =
    elim (cases_Bool (ltb n (2 ^ 63))) [
      | inl test ↦ let is : Some (pos n) ≡ Some z = rw test at e in (n, refl, cc, ltb-true _ _ test)
      | inr test ↦ let is = rw test at e in absurd (cc is)
    ]

negative_says : (bs : List ℕ) (z : ℤ) → negative (magnitude bs) ≡ Some z → FitsSigned w64 z × SpellsNumber (minus ∷ bs) z
negative_says bs z e =
    let found = negative_some (magnitude bs) z e in
    let says = magnitude_some bs found.0 found.1 in
    (rw found.2 (fits_negative found.0 says.2), (bs, says.0, inr (refl, rw (← says.1) found.2)))

positive_says : (bs : List ℕ) (z : ℤ) → positive (magnitude bs) ≡ Some z → FitsSigned w64 z × SpellsNumber bs z
positive_says bs z e =
    let found = positive_some (magnitude bs) z e in
    let says = magnitude_some bs found.0 found.1 in
    (rw found.2 (fits_positive found.0 found.3), (bs, says.0, inl (refl, rw (← says.1) found.2)))

-- a number that is read is spelled so, and fits
pub number_value_says : (text : List ℕ) (z : ℤ) → number_value text ≡ Some z → FitsSigned w64 z × SpellsNumber text z
unfolding number_value
number_value_says [] z e = absurd (cc e)
number_value_says (b ∷ bs) z e =
    elim (cases_Bool (eqb b minus)) [
      | inl test ↦ let read = rw test at e in subst (λ x. FitsSigned w64 z × SpellsNumber (x ∷ bs) z) (sym (eqb-true b minus test)) (negative_says bs z read)
      | inr test ↦ let read = rw test at e in positive_says (b ∷ bs) z read
    ]

positive_digits : (ds : List ℕ) → AreDigits ds → number_value ds ≡ positive (magnitude ds)
unfolding number_value
positive_digits [] h = absurd (cc h.0)
positive_digits (d ∷ ds) h = rw (digit_no_mark d h.0).minus refl

-- a number that is spelled and fits is read
pub number_value_reads : (text : List ℕ) (z : ℤ) → FitsSigned w64 z → SpellsNumber text z → number_value text ≡ Some z
unfolding number_value
number_value_reads text z fits (ds, digits, inl (is, value)) =
    let small = positive_fits (digits_value 10 ds) (rw value at fits) in
    rw (is, positive_digits ds digits, magnitude_digits ds digits (omega arith), lt-ltb (digits_value 10 ds) (2 ^ 63) small, value) refl
number_value_reads text z fits (ds, digits, inr (is, value)) =
    let small = negative_fits (digits_value 10 ds) (rw value at fits) in
    rw (is, magnitude_digits ds digits small, value) refl

-- what the answer says of the text, in both cases
pub number_said : (found : Option ℤ) (text : List ℕ) → found ≡ number_value text → IfSome found (λ z. SpellsNumber text z)
number_said None text e = tt
number_said (Some z) text e = (number_value_says text z (sym e)).1

pub number_unsaid : (found : Option ℤ) (text : List ℕ) → found ≡ number_value text → IfNone found ((z : ℤ) → FitsSigned w64 z → SpellsNumber text z → ⊥)
number_unsaid None text e = λ z fits spells. let reads = number_value_reads text z fits spells in cc (e, reads)
number_unsaid (Some z) text e = tt

-- a text spells one number
signed_value : List ℕ → ℤ
signed_value [] = pos 0
signed_value (b ∷ bs) = cond (eqb b minus) (neg_ℤ (pos (digits_value 10 bs))) (pos (digits_value 10 (b ∷ bs)))

number_is : (text : List ℕ) (z : ℤ) → SpellsNumber text z → signed_value text ≡ z
unfolding signed_value
number_is text z ([], h, inl (is, value)) = absurd (cc (h.0))
number_is text z (d ∷ ds, h, inl (is, value)) = rw (is, (digit_no_mark d h.0).minus) (sym value)
number_is text z (ds, h, inr (is, value)) = rw is (sym value)

-- a text spells one number
pub spells_one : (text : List ℕ) (m n : ℤ) → SpellsNumber text m → SpellsNumber text n → m ≡ n
spells_one text m n h k = sym (number_is text m h) ∙ number_is text n k
