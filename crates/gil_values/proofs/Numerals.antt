-- Numerals, and what formatting writes of a number.
use Rattle.std.proofs.Common.{◌≡◌, ℕ, zero, suc, ◌+◌, ◌/◌, ◌%◌, ◌^◌, ◌≤◌, ◌<◌, ℤ, pos, negsuc, List, [], ◌∷◌, ◌++◌, map, Some, refl, sym, ap, ◌∙◌, arith, slice_get, get_or, drop}
use Rattle.std.specs.Fmt.{decimal, signed_decimal}
use Rattle.std.specs.Prelude.{unsigned_abs}
use Rattle.std.specs.Char.{digit_value}
use Rattle.std.specs.Int.Digits.{digits_of, number_from_digits, AllBelowBase}
use Rattle.std.specs.Str.Parse.{digits_value}
use Rattle.std.proofs.lemmas.Fmt.{decimal_by_steps_wide}
use Rattle.std.proofs.lemmas.Int.Digits.{digits_of_step, digits_value_is, number_digits_of, all_below_base_digits_of, first_digits_of}
use Rattle.std.proofs.lemmas.List.{map_push}
use Rattle.std.proofs.lemmas.Str.{digit_value_digit}
use Rattle.gil_values.specs.Printed.{numeral, signed_numeral, NumeralsTell, PrintingTellsNumbers}

numeral-digits : (n : ℕ) → 0 < n → numeral n ≡ map (λ digit. 48 + digit) (digits_of 10 n)
unfolding numeral
numeral-digits zero some = absurd (omega arith)
numeral-digits (suc n) some = refl

numeral-zero : numeral 0 ≡ 48 ∷ []
unfolding numeral
numeral-zero = refl

numeral-digit : (n : ℕ) → n < 10 → numeral n ≡ (48 + n) ∷ []
numeral-digit zero small = numeral-zero
numeral-digit (suc n) small =
    let front : suc n / 10 ≡ 0 = omega arith in
    let last : suc n % 10 ≡ suc n = omega arith in
    numeral-digits (suc n) (omega arith) ∙ ap (map (λ digit. 48 + digit)) (digits_of_step 10 (suc n) (omega arith) (omega arith) ∙ (λ i. digits_of 10 (front i) ++ (last i ∷ [])))

numeral-step : (n : ℕ) → 10 ≤ n → numeral n ≡ numeral (n / 10) ++ ((48 + n % 10) ∷ [])
numeral-step n large =
    numeral-digits n (omega arith)
    ∙ ap (map (λ digit. 48 + digit)) (digits_of_step 10 n (omega arith) (omega arith))
    ∙ map_push (λ digit. 48 + digit) (digits_of 10 (n / 10)) (n % 10)
    ∙ ap (λ ds. ds ++ ((48 + n % 10) ∷ [])) (sym (numeral-digits (n / 10) (omega arith)))

-- formatting holds 64 digits: below that it writes the numeral
pub decimal-numeral : (n : ℕ) → n < 10 ^ 64 → decimal n ≡ numeral n
decimal-numeral = decimal_by_steps_wide (λ m ds. ds ≡ numeral m)
    (λ m small. sym (numeral-digit m small))
    (λ m ds large front. ap (λ x. x ++ ((48 + m % 10) ∷ [])) front ∙ sym (numeral-step m large))

pub signed_decimal-numeral : (n : ℤ) → unsigned_abs n < 10 ^ 64 → signed_decimal n ≡ signed_numeral n
signed_decimal-numeral (pos n) small = decimal-numeral n small
signed_decimal-numeral (negsuc n) small = ap (λ ds. 45 ∷ ds) (decimal-numeral (suc n) small)

-- ---- a numeral tells its number

digit_back : (d : ℕ) → d < 10 → digit_value (48 + d) ≡ d
digit_back d small = omega (arith, digit_value_digit (48 + d) (omega arith, omega arith))

digits_back : (ds : List ℕ) → AllBelowBase 10 ds → map digit_value (map (λ digit. 48 + digit) ds) ≡ ds
digits_back [] below = refl
digits_back (d ∷ ds) below = (λ i. digit_back d below.0 i ∷ digits_back ds below.1 i)

pub numeral-value : (n : ℕ) → digits_value 10 (numeral n) ≡ n
numeral-value zero = ap (digits_value 10) numeral-zero
numeral-value (suc n) =
    ap (digits_value 10) (numeral-digits (suc n) (omega arith))
    ∙ digits_value_is 10 (map (λ digit. 48 + digit) (digits_of 10 (suc n)))
    ∙ ap (number_from_digits 10) (digits_back (digits_of 10 (suc n)) (all_below_base_digits_of 10 (suc n) (omega arith)))
    ∙ number_digits_of 10 (suc n) (omega arith)

first_is : (ds : List ℕ) → 0 < get_or ds 0 0 → ¬ (slice_get (map (λ digit. 48 + digit) ds) 0 ≡ Some 48)
first_is [] some e = absurd (omega arith)
first_is (d ∷ ds) some e = let same : 48 + d ≡ 48 = cc in absurd (omega (arith, same, some))

numeral-leading : (n : ℕ) → 0 < n → ¬ (slice_get (numeral n) 0 ≡ Some 48)
numeral-leading n some e = first_is (digits_of 10 n) (first_digits_of 10 n (omega arith) some) (ap (λ ds. slice_get ds 0) (sym (numeral-digits n some)) ∙ e)

pub numerals_tell : NumeralsTell
numerals_tell = record { value = numeral-value; leading = numeral-leading }

-- ---- printing is one-to-one

numeral-injective : (m n : ℕ) → numeral m ≡ numeral n → m ≡ n
numeral-injective m n e = sym (numeral-value m) ∙ ap (digits_value 10) e ∙ numeral-value n

firsts : (c d : ℕ) (cs ds : List ℕ) → c ∷ cs ≡ d ∷ ds → c ≡ d
firsts c d cs ds e = cc

no_minus_of_digits : (ds rest : List ℕ) → ¬ (map (λ digit. 48 + digit) ds ≡ 45 ∷ rest)
no_minus_of_digits [] rest e = absurd (cc)
no_minus_of_digits (d ∷ ds) rest e = absurd (omega (arith, firsts _ _ _ _ e))

no_minus : (n : ℕ) (rest : List ℕ) → ¬ (numeral n ≡ 45 ∷ rest)
no_minus zero rest e = absurd (omega (arith, firsts _ _ _ _ (sym numeral-zero ∙ e)))
no_minus (suc n) rest e = no_minus_of_digits (digits_of 10 (suc n)) rest (sym (numeral-digits (suc n) (omega arith)) ∙ e)

signed-injective : (m n : ℤ) → signed_numeral m ≡ signed_numeral n → m ≡ n
signed-injective (pos m) (pos n) e = ap pos (numeral-injective m n e)
signed-injective (pos m) (negsuc n) e = absurd (no_minus m _ e)
signed-injective (negsuc m) (pos n) e = absurd (no_minus n _ (sym e))
signed-injective (negsuc m) (negsuc n) e = ap negsuc (omega (arith, numeral-injective (suc m) (suc n) (ap (drop 1) e)))

pub printing_tells_numbers : PrintingTellsNumbers
printing_tells_numbers = record {
  integers = signed-injective;
  symbols = λ m n e. numeral-injective m n (ap (drop 1) e);
}
