-- What formatting writes of the numbers that the code holds is their numerals.
use Rattle.std.proofs.Common.{◌≡◌, ℕ, ◌^◌, ◌<◌, ℤ, pos, negsuc, arith}
use Rattle.std.specs.Fmt.{decimal, signed_decimal}
use Rattle.std.specs.Prelude.{FitsSigned, unsigned_abs}
use Rattle.std.specs.Int.{w128}
use Rattle.gil_values.specs.Printed.{numeral, signed_numeral}
use Rattle.gil_values.proofs.Numerals.{decimal-numeral, signed_decimal-numeral}

fits : (n : ℤ) → FitsSigned w128 n → unsigned_abs n < 10 ^ 64
fits (pos n) h = omega (arith, h.sfits)
fits (negsuc n) h = omega (arith, h.sfits)

pub printed_integer : (n : ℤ) → FitsSigned w128 n → signed_decimal n ≡ signed_numeral n
printed_integer n h = signed_decimal-numeral n (fits n h)

pub printed_number : (n : ℕ) → n < 2 ^ 64 → decimal n ≡ numeral n
printed_number n h = decimal-numeral n (omega arith)
