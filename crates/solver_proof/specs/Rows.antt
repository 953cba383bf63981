-- Rows, as the checker has them.
use Rattle.std.specs.Int.{IsGcd}
use Rattle.std.specs.Prelude.{◌≡◌, unsigned_abs, ℕ, ℤ, pos, neg_ℤ, ◌+ℤ◌, ◌*ℤ◌, int_lt, List, [], ◌∷◌, Bool, true, false, ◌&&◌, if◌then◌else◌, Option, Some, None}
use Rattle.std.specs.Ordering.{int_eq}
use Rattle.pure_terms.specs.Pure.{PureAtom}
use Rattle.solver_proof.specs.declared.proofs.Factor.{Factor}
use Rattle.solver_proof.specs.declared.sums.Part.{Part}
use Rattle.pure_terms.specs.Numbers.{is_held}
use Rattle.solver_proof.specs.declared.rows.Offset.{Offset}
use Rattle.solver_proof.specs.declared.rows.Row.{Row as HeldRow}
use Rattle.solver_proof.specs.Sums.{Side, Row, is_held_row, row_at, coefficient}

abbrev pub offset_view : Offset → Side
offset_view o = record { of = o.of; plus = o.plus }

abbrev pub row_view : HeldRow → Row
row_view r = record { plus = r.plus; minus = r.minus; constant = r.constant; is_equal = r.is_equal }

-- the row, where the code can hold it
abbrev pub held_row : Option Row → Option Row
held_row (Some row) = if is_held_row row then Some row else None
held_row None = None

abbrev pub held_constant : ℤ → Option ℤ
held_constant n = if is_held n && is_held (neg_ℤ n) then Some n else None

-- what of a row is added up
abbrev pub part_of : Part → Row → ℤ
part_of Part.Constant row = row.constant
part_of (Part.Coefficient x) row = coefficient x row

abbrev pub held_number : ℤ → Option ℤ
held_number n = if is_held n then Some n else None

abbrev pub held_sum : Option ℤ → Option ℤ → Option ℤ
held_sum (Some m) (Some n) = held_number (m +ℤ n)
held_sum m n = None

abbrev pub row_product : (Row → ℤ) → ℤ → Option Row → Option ℤ
row_product part f (Some row) = held_number (f *ℤ part row)
row_product part f None = None

-- the sum over rows that the code can hold
abbrev pub sum_of_rows : List PureAtom → (Row → ℤ) → List Factor → Option ℤ
sum_of_rows atoms part [] = Some (pos 0)
sum_of_rows atoms part (f ∷ fs) = held_sum (row_product part f.factor (held_row (row_at atoms f.atom))) (sum_of_rows atoms part fs)

abbrev pub is_zero : Option ℤ → Bool
is_zero (Some n) = int_eq n (pos 0)
is_zero None = false

abbrev pub is_positive : Option ℤ → Bool
is_positive (Some n) = int_lt (pos 0) n
is_positive None = false

-- the coefficient of the variable vanishes
abbrev pub variable_cancels : List PureAtom → List Factor → Option ℕ → Bool
variable_cancels atoms fs (Some x) = is_zero (sum_of_rows atoms (part_of (Part.Coefficient x)) fs)
variable_cancels atoms fs None = true

abbrev pub row_cancels : List PureAtom → List Factor → Option Row → Bool
row_cancels atoms fs (Some row) = variable_cancels atoms fs row.plus && variable_cancels atoms fs row.minus
row_cancels atoms fs None = true

-- the coefficient of each variable of these rows vanishes
abbrev pub cancel_rows : List PureAtom → List Factor → List Factor → Bool
cancel_rows atoms fs [] = true
cancel_rows atoms fs (f ∷ some) = row_cancels atoms fs (held_row (row_at atoms f.atom)) && cancel_rows atoms fs some

-- g is the greatest common divisor of the factors, and 0 where there are none
abbrev pub IsCommonDivisor : List Factor → ℕ → Type 0
IsCommonDivisor [] g = g ≡ 0
IsCommonDivisor (f ∷ fs) g = (h : ℕ) × (IsCommonDivisor fs h × IsGcd (unsigned_abs f.factor) h g)
