-- Sums of rows. A row says of whole numbers that one less another plus a constant is at most 0, or is 0.
use Prim.Native.Nat.{◌∣◌}
use Rattle.std.specs.Prelude.{◌≡◌, ℕ, ℤ, pos, neg_ℤ, ◌+ℤ◌, ◌-ℤ◌, ◌*ℤ◌, ◌<ℤ◌, unsigned_abs, int_lt, List, [], ◌∷◌, map, slice_get, Bool, true, false, not, ◌&&◌, ◌||◌, if◌then◌else◌, Option, Some, None, IsTrue, nat_eq}
use Rattle.std.specs.Option.{option_and_then}
use Rattle.std.specs.List.{list_all, list_any}
use Rattle.gil_values.specs.declared.operators.BinOp.{BinOp}
use Rattle.pure_terms.specs.declared.literals.Literal.{Literal}
use Rattle.pure_terms.specs.declared.variables.Sort.{Sort}
use Rattle.pure_terms.specs.Kinds.{same_sort}
use Rattle.pure_terms.specs.Numbers.{is_held}
use Rattle.pure_terms.specs.Pure.{PureTerm, literal, variable, binary_of, PureAtom, positive, negative, opening}
use Rattle.solver_proof.specs.declared.proofs.Factor.{Factor}

-- a variable, or none, plus a number
pub record Side : Type 0 where
  pub of : Option ℕ
  pub plus : ℤ

abbrev pub integer_variable : PureTerm → Option ℕ
integer_variable (variable x) = if same_sort x.sort Sort.Int then Some x.number else None
integer_variable _ = None

abbrev pub integer_of : PureTerm → Option ℤ
integer_of (literal (Literal.Int n)) = Some n
integer_of _ = None

abbrev pub shifted_side : Option ℕ → Option ℤ → Option Side
shifted_side (Some x) (Some n) = if is_held n then Some (record { of = Some x; plus = n }) else None
shifted_side _ _ = None

abbrev pub opposite_of : Option ℤ → Option ℤ
opposite_of (Some n) = Some (neg_ℤ n)
opposite_of None = None

abbrev pub variable_side : Option ℕ → Option Side
variable_side (Some x) = Some (record { of = Some x; plus = pos 0 })
variable_side None = None

-- a simple term that is a whole number: an Int literal, or an Int variable, perhaps plus or minus an Int literal
abbrev pub side_of : PureTerm → Option Side
side_of (literal (Literal.Int n)) = Some (record { of = None; plus = n })
side_of (variable x) = variable_side (integer_variable (variable x))
side_of (binary_of BinOp.Add s t) = shifted_side (integer_variable s) (integer_of t)
side_of (binary_of BinOp.Subtract s t) = shifted_side (integer_variable s) (opposite_of (integer_of t))
side_of _ = None

-- `plus - minus + constant <= 0`, or `= 0` where it is equal
pub record Row : Type 0 where
  pub plus : Option ℕ
  pub minus : Option ℕ
  pub constant : ℤ
  pub is_equal : Bool

-- `s - t + more <= 0`, or `= 0`
abbrev pub difference : Option Side → Option Side → ℤ → Bool → Option Row
difference (Some s) (Some t) more is_equal =
    Some (record { plus = s.of; minus = t.of; constant = (s.plus -ℤ t.plus) +ℤ more; is_equal = is_equal })
difference _ _ more is_equal = None

-- `s <= t` gives `s - t <= 0`, `s < t` gives `s - t + 1 <= 0`, and `s = t` gives `s - t = 0`
abbrev pub row_where_true : PureTerm → Option Row
row_where_true (binary_of BinOp.LessOrEqual s t) = difference (side_of s) (side_of t) (pos 0) false
row_where_true (binary_of BinOp.Less s t) = difference (side_of s) (side_of t) (pos 1) false
row_where_true (binary_of BinOp.Equal s t) = difference (side_of s) (side_of t) (pos 0) true
row_where_true _ = None

-- where it is false, `s <= t` gives `t - s + 1 <= 0`, and `s < t` gives `t - s <= 0`
abbrev pub row_where_false : PureTerm → Option Row
row_where_false (binary_of BinOp.LessOrEqual s t) = difference (side_of t) (side_of s) (pos 1) false
row_where_false (binary_of BinOp.Less s t) = difference (side_of t) (side_of s) (pos 0) false
row_where_false _ = None

abbrev pub row_of : PureAtom → Option Row
row_of (positive t) = row_where_true t
row_of (negative t) = row_where_false t
row_of (opening t) = None

abbrev pub row_at : List PureAtom → ℕ → Option Row
row_at atoms i = option_and_then row_of (slice_get atoms i)

-- ---- sums

-- what the row of the atom times the factor adds to a sum; an atom without a row adds nothing
abbrev pub of_row : (Row → ℤ) → ℤ → Option Row → ℤ
of_row part f (Some row) = f *ℤ part row
of_row part f None = pos 0

abbrev pub total : List PureAtom → (Row → ℤ) → List Factor → ℤ
total atoms part [] = pos 0
total atoms part (f ∷ fs) = of_row part f.factor (row_at atoms f.atom) +ℤ total atoms part fs

abbrev pub one_if_variable : ℕ → Option ℕ → ℤ
one_if_variable x (Some y) = if nat_eq x y then pos 1 else pos 0
one_if_variable x None = pos 0

-- the coefficient of a variable in a row
abbrev pub coefficient : ℕ → Row → ℤ
coefficient x row = one_if_variable x row.plus -ℤ one_if_variable x row.minus

-- the code can hold the constant of a row, and its opposite
abbrev pub is_held_row : Row → Bool
is_held_row row = is_held row.constant && is_held (neg_ℤ row.constant)

-- the factor may be that of the atom's row: it is positive, or the row an equality; and the code can hold the row
abbrev pub is_factor_of : ℤ → Option Row → Bool
is_factor_of f (Some row) = is_held_row row && (row.is_equal || int_lt (pos 0) f)
is_factor_of f None = false

abbrev pub are_factors : List PureAtom → List Factor → Bool
are_factors atoms fs = list_all (λ f. is_factor_of f.factor (row_at atoms f.atom)) fs

-- no number stands twice in the list
abbrev pub are_apart : List ℕ → Bool
are_apart [] = true
are_apart (n ∷ ns) = not (list_any (nat_eq n) ns) && are_apart ns

abbrev pub DividesEach : ℕ → List Factor → Type 0
DividesEach d [] = Unit {0}
DividesEach d (f ∷ fs) = (d ∣ unsigned_abs f.factor) × DividesEach d fs

-- the code can hold each product and each sum of the products from one of them to the last
abbrev pub is_held_total : List PureAtom → (Row → ℤ) → List Factor → Bool
is_held_total atoms part [] = true
is_held_total atoms part (f ∷ fs) =
    is_held (of_row part f.factor (row_at atoms f.atom)) && (is_held (total atoms part (f ∷ fs)) && is_held_total atoms part fs)

-- the rows of different atoms times their factors add to a positive constant without variables; no number above 1 divides
-- each factor; and the code can hold the numbers on the way
pub record SumCloses (atoms : List PureAtom) (fs : List Factor) : Type 0 where
  pub apart : IsTrue (are_apart (map (λ f. f.atom) fs))
  pub factors : IsTrue (are_factors atoms fs)
  pub constant : pos 0 <ℤ total atoms (λ row. row.constant) fs
  pub variables : (x : ℕ) → total atoms (coefficient x) fs ≡ pos 0
  pub no_divisor : (d : ℕ) → DividesEach d fs → d ≡ 1
  pub held_constant : IsTrue (is_held_total atoms (λ row. row.constant) fs)
  pub held_variables : (x : ℕ) → IsTrue (is_held_total atoms (coefficient x) fs)
