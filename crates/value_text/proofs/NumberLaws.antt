-- Numbers.
use Rattle.std.proofs.Common.{◌≡◌, ℕ, zero, suc, ◌+◌, ◌*◌, ◌^◌, ◌<◌, ◌≤◌, Bool, true, false, not, ◌&&◌, ◌||◌, eqb, ℤ, pos, negsuc, List, [], ◌∷◌, ◌++◌, map, length, take, drop, get_or, Option, Some, None, refl, sym, ap, ◌∙◌, arith, inl, inr, le_refl, le_trans}
use Rattle.std.specs.Prelude.{FitsSigned}
use Rattle.std.specs.Char.{digit_value, is_ascii_digit}
use Rattle.std.specs.Int.{w128}
use Rattle.std.specs.Int.Digits.{digits_of, AllBelowBase}
use Rattle.std.specs.List.{list_all}
use Rattle.std.specs.Str.Parse.{digits_value, digits_value_after}
use Rattle.std.proofs.lemmas.Bool.{true≢false, and_from, and_parts, and_right, cases_Bool, eqb-true, le-leb, lt-leb, lt-ltb, ne_eqb, or_right}
use Rattle.std.proofs.lemmas.Int.{ints}
use Rattle.std.proofs.lemmas.Int.Digits.{all_below_base_digits_of}
use Rattle.std.proofs.lemmas.List.{at_drop_more}
use Rattle.std.proofs.Math.Seq.{take-append_seam, drop-append_seam}
use Rattle.gil_values.specs.Printed.{numeral, signed_numeral}
use Rattle.gil_values.proofs.Numerals.{numeral-value}
use Rattle.gil_lexer.specs.Bytes.{begins}
use Rattle.gil_lexer.proofs.ByteLemmas.{digit_no_mark}
use Rattle.gil_lexer.proofs.NumberLemmas.{le-digits_value_after}
use Rattle.gil_lexer.proofs.RunLemmas.{run_is, begins_append}
use Rattle.value_text.specs.Reading.{is_number_start, magnitude, number_at, natural_at, positive_at, negative_at, integer_at}
use Rattle.value_text.proofs.WordLaws.{behind_again}

-- ---- a number that is too large

magnitude_large : (ds : List ℕ) → 2 ^ 127 < digits_value 10 ds → None ≡ magnitude ds
magnitude_large ds large = rw (lt-leb (digits_value 10 ds) (2 ^ 127) large, and_right (list_all is_ascii_digit ds && not (eqb (length ds) 0)) false refl) refl

-- the number so far is too large
pub too_large : (ds : List ℕ) (i n : ℕ) → i < length ds → digits_value_after 10 n (drop i ds) ≡ digits_value 10 ds → 2 ^ 127 < n * 10 + digit_value (get_or ds i 0) → None ≡ magnitude ds
too_large ds i n lt kept large =
    let turn = at_drop_more (digits_value_after 10 n) ds i 0 lt in
    let grown = le-digits_value_after (n * 10 + digit_value (get_or ds i 0)) (drop (i + 1) ds) in
    let is : digits_value_after 10 (n * 10 + digit_value (get_or ds i 0)) (drop (i + 1) ds) ≡ digits_value 10 ds = sym turn ∙ kept in
    magnitude_large ds (omega arith)

-- ---- printed numbers

below_ten : (d : ℕ) → d < 10 → is_ascii_digit (48 + d) ≡ true
below_ten d small = and_from _ _ (le-leb 48 (48 + d) (omega arith)) (le-leb (48 + d) 57 (omega arith))

all_digits : (ds : List ℕ) → AllBelowBase 10 ds → list_all is_ascii_digit (map (λ digit. 48 + digit) ds) ≡ true
all_digits [] below = refl
all_digits (d ∷ ds) below = and_from _ _ (below_ten d below.0) (all_digits ds below.1)

pub numeral_digits : (n : ℕ) → list_all is_ascii_digit (numeral n) ≡ true
unfolding numeral
numeral_digits zero = refl
numeral_digits (suc n) = all_digits (digits_of 10 (suc n)) (all_below_base_digits_of 10 (suc n) (omega arith))

first_digit : (ds : List ℕ) → list_all is_ascii_digit ds ≡ true → (ds ≡ [] → ⊥) → begins is_ascii_digit ds ≡ true
first_digit [] all some = absurd (some refl)
first_digit (d ∷ ds) all some = (and_parts _ _ all).0

numeral_some : (n : ℕ) → numeral n ≡ [] → ⊥
unfolding numeral
numeral_some zero e = absurd (cc e)
numeral_some (suc n) e = let value = sym (numeral-value (suc n)) ∙ ap (digits_value 10) e in absurd (omega (arith, value))

pub numeral_begins : (n : ℕ) → begins is_ascii_digit (numeral n) ≡ true
numeral_begins n = first_digit (numeral n) (numeral_digits n) (numeral_some n)

not_empty : (ds : List ℕ) → begins is_ascii_digit ds ≡ true → eqb (length ds) 0 ≡ false
not_empty [] e = cc
not_empty (d ∷ ds) e = ne_eqb (length (d ∷ ds)) 0 (λ none. omega arith)

-- digits begin with no other byte
pub first_not : (c : ℕ) (ds rest : List ℕ) → begins is_ascii_digit ds ≡ true → is_ascii_digit c ≡ false → begins (λ b. eqb b c) (ds ++ rest) ≡ false
first_not c [] rest e apart = absurd (cc e)
first_not c (d ∷ ds) rest e apart =
    elim (cases_Bool (eqb d c)) [
      | inl same ↦ absurd (true≢false (sym e ∙ ap is_ascii_digit (eqb-true d c same) ∙ apart))
      | inr other ↦ other
    ]

magnitude_again : (n : ℕ) → n ≤ 2 ^ 127 → magnitude (numeral n) ≡ Some n
magnitude_again n small = rw (numeral_digits n, not_empty (numeral n) (numeral_begins n), numeral-value n, le-leb n (2 ^ 127) small) refl

number_again : (n : ℕ) (rest : List ℕ) → n ≤ 2 ^ 127 → begins is_ascii_digit rest ≡ false → number_at (numeral n ++ rest) ≡ Some (n, rest)
unfolding number_at
number_again n rest small stops =
    rw (run_is is_ascii_digit (numeral n) rest (numeral_digits n) stops, take-append_seam (numeral n) rest, drop-append_seam (numeral n) rest, magnitude_again n small) refl

pub natural_again : (bits n : ℕ) (rest : List ℕ) → n < 2 ^ bits → n ≤ 2 ^ 127 → begins is_ascii_digit rest ≡ false → natural_at bits (numeral n ++ rest) ≡ Some (n, rest)
unfolding natural_at
natural_again bits n rest fits small stops = rw (number_again n rest small stops, lt-ltb n (2 ^ bits) fits) refl

positive_again : (n : ℕ) (rest : List ℕ) → n < 2 ^ 127 → begins is_ascii_digit rest ≡ false → positive_at (numeral n ++ rest) ≡ Some (pos n, rest)
unfolding positive_at
positive_again n rest small stops = rw (number_again n rest (omega arith) stops, lt-ltb n (2 ^ 127) small) refl

negative_again : (n : ℕ) (rest : List ℕ) → suc n ≤ 2 ^ 127 → begins is_ascii_digit rest ≡ false → negative_at (45 ∷ (numeral (suc n) ++ rest)) ≡ Some (negsuc n, rest)
unfolding negative_at
negative_again n rest small stops = rw (behind_again (45 ∷ []) (numeral (suc n) ++ rest), number_again (suc n) rest small stops) refl

fits_positive : (n : ℕ) → FitsSigned w128 (pos n) → n < 2 ^ 127
fits_positive n fits = omega (arith, ints)

fits_negative : (n : ℕ) → FitsSigned w128 (negsuc n) → suc n ≤ 2 ^ 127
fits_negative n fits = omega (arith, ints)

pub integer_again : (z : ℤ) (rest : List ℕ) → FitsSigned w128 z → begins is_ascii_digit rest ≡ false → integer_at (signed_numeral z ++ rest) ≡ Some (z, rest)
integer_again (pos n) rest fits stops = rw (first_not 45 (numeral n) rest (numeral_begins n) refl) (positive_again n rest (fits_positive n fits) stops)
integer_again (negsuc n) rest fits stops = negative_again n rest (fits_negative n fits) stops

starts_as_number : (ds rest : List ℕ) → begins is_ascii_digit ds ≡ true → begins is_number_start (ds ++ rest) ≡ true
starts_as_number [] rest e = absurd (cc e)
starts_as_number (d ∷ ds) rest e = or_right (eqb d 45) (is_ascii_digit d) e

pub integer_starts : (z : ℤ) (rest : List ℕ) → begins is_number_start (signed_numeral z ++ rest) ≡ true
integer_starts (pos n) rest = starts_as_number (numeral n) rest (numeral_begins n)
integer_starts (negsuc n) rest = refl

-- and with no byte that is neither a digit nor a minus sign
pub integer_first_not : (c : ℕ) (z : ℤ) (rest : List ℕ) → is_ascii_digit c ≡ false → eqb 45 c ≡ false → begins (λ b. eqb b c) (signed_numeral z ++ rest) ≡ false
integer_first_not c (pos n) rest apart other = first_not c (numeral n) rest (numeral_begins n) apart
integer_first_not c (negsuc n) rest apart other = other
