-- What rows say of a valuation.
use Rattle.std.specs.Prelude.{◌≡◌, ℕ, ℤ, pos, ◌+ℤ◌, ◌*ℤ◌, ◌≤ℤ◌, List, [], ◌∷◌, slice_get, All, Option, Some, None, IsSomeAnd}
use Rattle.std.specs.Option.{option_and_then}
use Rattle.gil_values.specs.Pure.{PureValue, integer}
use Rattle.pure_terms.specs.declared.variables.Sort.{Sort}
use Rattle.linear_core.specs.declared.rows.Coefficient.{Coefficient}
use Rattle.linear_core.specs.declared.rows.Relation.{Relation}
use Rattle.linear_core.specs.declared.rows.Row.{Row}

abbrev pub whole_number : PureValue → Option ℤ
whole_number (integer n) = Some n
whole_number _ = None

-- the number that the variable has, where it has one
abbrev pub number_at : List PureValue → ℕ → Option ℤ
number_at v x = option_and_then whole_number (slice_get v x)

-- a factor times the first number, and the second added to it
abbrev pub scaled_and_added : ℤ → Option ℤ → Option ℤ → Option ℤ
scaled_and_added factor (Some n) (Some rest) = Some ((factor *ℤ n) +ℤ rest)
scaled_and_added factor _ _ = None

-- the sum of the variables times their factors, where each variable has a number
abbrev pub sum_at : List PureValue → List Coefficient → Option ℤ
sum_at v [] = Some (pos 0)
sum_at v (c ∷ cs) = scaled_and_added c.factor (number_at v c.variable) (sum_at v cs)

abbrev pub Relates : Relation → ℤ → Type 0
Relates Relation.AtMostZero n = n ≤ℤ pos 0
Relates Relation.Zero n = n ≡ pos 0

-- the valuation meets the row
abbrev pub Meets : List PureValue → Row → Type 0
Meets v row = IsSomeAnd (sum_at v row.coefficients) (λ n. Relates row.relation (n +ℤ row.constant))

abbrev pub MeetsAll : List PureValue → List Row → Type 0
MeetsAll v rows = All (Meets v) rows

-- the rows name only whole-number variables of the table
abbrev pub AreOver : List Sort → List Row → Type 0
AreOver vars rows = All (λ row. All (λ c. slice_get vars c.variable ≡ Some Sort.Int) row.coefficients) rows
