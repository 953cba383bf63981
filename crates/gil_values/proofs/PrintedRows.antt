-- Printed values, worked out.
use Rattle.std.proofs.Common.{◌≡◌, ℤ, pos, negsuc, ◌<◌, ◌^◌, [], ◌∷◌, ◌++◌, true, refl, sym, arith}
use Rattle.std.specs.Prelude.{unsigned_abs, codes}
use Rattle.std.specs.Fmt.{digits, signed_decimal}
use Rattle.std.specs.List.{join_by}
use Rattle.gil_values.proofs.Numerals.{signed_decimal-numeral}
use Rattle.gil_values.specs.declared.kinds.Kind.TheVariants.{Null}
use Rattle.gil_values.specs.Pure.{integer, boolean, text, symbol, kind, procedure, list, from_list}
use Rattle.gil_values.specs.Printed.{numeral, printed_value}

-- a list of two whole numbers that formatting holds, printed
two : (m n : ℤ) → unsigned_abs m < 10 ^ 64 → unsigned_abs n < 10 ^ 64
    → printed_value (list (from_list (integer m ∷ integer n ∷ []))) ≡ codes "[" ++ join_by (λ printed. printed) (codes ", ") (signed_decimal m ∷ signed_decimal n ∷ []) ++ codes "]"
two m n small also = λ i. codes "[" ++ join_by (λ printed. printed) (codes ", ") (sym (signed_decimal-numeral m small) i ∷ sym (signed_decimal-numeral n also) i ∷ []) ++ codes "]"

numbers : printed_value (list (from_list (integer (pos 7) ∷ integer (negsuc 2) ∷ integer (negsuc 0) ∷ []))) ≡ codes "[7, -3, -1]"
unfolding numeral
numbers = refl

zero_and_greatest : printed_value (list (from_list (integer (pos 0) ∷ integer (pos 170141183460469231731687303715884105727) ∷ []))) ≡ codes "[0, 170141183460469231731687303715884105727]"
unfolding digits
zero_and_greatest = two (pos 0) (pos 170141183460469231731687303715884105727) (omega arith) (omega arith)

quote : printed_value (text (codes "a\"b")) ≡ codes "\"a\\\"b\""
quote = refl

backslash_and_line : printed_value (text (codes "\\\n")) ≡ codes "\"\\\\\\n\""
backslash_and_line = refl

empty : printed_value (list (from_list [])) ≡ codes "[]"
empty = refl

seventh : printed_value (symbol 7) ≡ codes "$7"
unfolding numeral
seventh = refl

named : printed_value (procedure (codes "f")) ≡ codes "@f"
named = refl

nested : printed_value (list (from_list (boolean true ∷ list (from_list (kind Null ∷ [])) ∷ []))) ≡ codes "[true, [Null]]"
nested = refl
