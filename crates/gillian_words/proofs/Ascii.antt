-- Numbers are ASCII.
use Rattle.std.proofs.Common.{◌≡◌, ◌≢◌, ◌<◌, ℕ, zero, suc, List, [], ◌∷◌, Bool, true, false, cond, eqb, get_or, drop, arith, refl, lit<}
use Rattle.std.specs.Str.{IsUtf8}
use Rattle.std.specs.Str.Parse.{AllDigits, IsNumeral, without_leading_sign}
use Rattle.std.proofs.lemmas.Bool.{eqb-true}
use Rattle.std.proofs.lemmas.Str.{IsUtf8-from_ascii}
use Rattle.std.proofs.lemmas.Str.Parse.{digit_from_value}

digits_ascii : (ds : List ℕ) → AllDigits 10 ds → (i : ℕ) → get_or ds i 0 < 128
digits_ascii [] d i = lit< tt
digits_ascii (c ∷ ds) d zero = let in_range = digit_from_value c d.0 in omega (arith, in_range.1)
digits_ascii (c ∷ ds) d (suc i) = digits_ascii ds d.1 i

-- by whether a minus or a plus stands first
by_sign : (b : ℕ) (bs : List ℕ) (m p : Bool) → eqb b 45 ≡ m → eqb b 43 ≡ p → b ≢ 43
    → IsNumeral 10 (cond m (drop 1 (b ∷ bs)) (drop (cond p 1 0) (b ∷ bs))) → (i : ℕ) → get_or (b ∷ bs) i 0 < 128
by_sign b bs true p is_minus is_plus no_plus numeral zero = let is = eqb-true b 45 is_minus in omega (arith, is)
by_sign b bs true p is_minus is_plus no_plus numeral (suc i) = digits_ascii bs numeral.1 i
by_sign b bs false true is_minus is_plus no_plus numeral i = absurd (no_plus (eqb-true b 43 is_plus))
by_sign b bs false false is_minus is_plus no_plus numeral i = digits_ascii (b ∷ bs) numeral.1 i

pub number_utf8 : (word : List ℕ) → get_or word 0 0 ≢ 43 → IsNumeral 10 (without_leading_sign word) → IsUtf8 word
number_utf8 [] no_plus numeral = IsUtf8-from_ascii [] (λ i. lit< tt)
number_utf8 (b ∷ bs) no_plus numeral = IsUtf8-from_ascii (b ∷ bs) (by_sign b bs (eqb b 45) (eqb b 43) refl refl no_plus numeral)
