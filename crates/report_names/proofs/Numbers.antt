-- The names of variables that have none.
use Rattle.std.proofs.Common.{ℕ, zero, suc, ◌+◌, List, [], ◌∷◌, ◌++◌, map, inl, arith}
use Rattle.std.specs.Prelude.{codes}
use Rattle.std.specs.Int.Digits.{digits_of, AllBelowBase}
use Rattle.std.proofs.lemmas.Int.Digits.{all_below_base_digits_of}
use Rattle.std.proofs.lemmas.List.Elements.{All-nil, All-cons}
use Rattle.gil_values.specs.Characters.{IsTextCharacter, IsText}
use Rattle.gil_values.specs.Printed.{numeral}

digits_text : (ds : List ℕ) → AllBelowBase 10 ds → IsText (map (λ digit. 48 + digit) ds)
digits_text [] below = All-nil IsTextCharacter
digits_text (d ∷ ds) below = All-cons IsTextCharacter (48 + d) _ (inl (omega arith, omega (arith, below.0))) (digits_text ds below.1)

numeral_text : (n : ℕ) → IsText (numeral n)
unfolding numeral
numeral_text zero = All-cons IsTextCharacter 48 [] (inl (omega arith, omega arith)) (All-nil IsTextCharacter)
numeral_text (suc n) = digits_text (digits_of 10 (suc n)) (all_below_base_digits_of 10 (suc n) (omega arith))

pub name_text : (n : ℕ) → IsText (codes "v" ++ numeral n)
name_text n = All-cons IsTextCharacter 118 (numeral n) (inl (omega arith, omega arith)) (numeral_text n)
