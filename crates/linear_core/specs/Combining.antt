-- Combinations: rows that add, times their factors, to a positive constant without variables.
use Rattle.std.specs.Prelude.{◌≡◌, ℕ, ℤ, pos, ◌+ℤ◌, ◌*ℤ◌, ◌<ℤ◌, int_lt, List, [], ◌∷◌, map, slice_get, Bool, true, false, ◌&&◌, ◌||◌, if◌then◌else◌, Option, Some, None, IsTrue, nat_eq}
use Rattle.std.specs.List.{list_all}
use Rattle.pure_terms.specs.Numbers.{is_held}
use Rattle.solver_proof.specs.declared.proofs.Factor.{Factor}
use Rattle.solver_proof.specs.Sums.{are_apart, DividesEach}
use Rattle.linear_core.specs.declared.rows.Coefficient.{Coefficient}
use Rattle.linear_core.specs.declared.rows.Relation.{Relation}
use Rattle.linear_core.specs.declared.rows.Row.{Row}

-- the coefficient of a variable in a sum
abbrev pub coefficient_of : ℕ → List Coefficient → ℤ
coefficient_of x [] = pos 0
coefficient_of x (c ∷ cs) = (if nat_eq x c.variable then c.factor else pos 0) +ℤ coefficient_of x cs

abbrev pub coefficient : ℕ → Row → ℤ
coefficient x row = coefficient_of x row.coefficients

-- what a row times its factor adds to a sum
abbrev pub of_row : {R : Type 0} → (R → ℤ) → ℤ → Option R → ℤ
of_row part f (Some row) = f *ℤ part row
of_row part f None = pos 0

-- the sum of a part of the rows times their factors; the place in a factor is that of a row
abbrev pub total : {R : Type 0} → List R → (R → ℤ) → List Factor → ℤ
total rows part [] = pos 0
total rows part (f ∷ fs) = of_row part f.factor (slice_get rows f.atom) +ℤ total rows part fs

abbrev pub is_equality : Relation → Bool
is_equality Relation.AtMostZero = false
is_equality Relation.Zero = true

-- the factor may be that of the row: it is positive, or the row an equality
abbrev pub is_factor_of : ℤ → Option Row → Bool
is_factor_of f (Some row) = is_equality row.relation || int_lt (pos 0) f
is_factor_of f None = false

-- the code can hold each product, and each sum of the products from one of them to the last
abbrev pub is_held_total : {R : Type 0} → List R → (R → ℤ) → List Factor → Bool
is_held_total rows part [] = true
is_held_total rows part (f ∷ fs) =
    is_held (of_row part f.factor (slice_get rows f.atom)) && (is_held (total rows part (f ∷ fs)) && is_held_total rows part fs)

-- different rows times their factors add to a positive constant without variables, no number above 1 divides each factor,
-- and the code can hold the numbers on the way
pub record IsCombination (rows : List Row) (fs : List Factor) : Type 0 where
  pub apart : IsTrue (are_apart (map (λ f. f.atom) fs))
  pub factors : IsTrue (list_all (λ f. is_factor_of f.factor (slice_get rows f.atom)) fs)
  pub constant : pos 0 <ℤ total rows (λ row. row.constant) fs
  pub variables : (x : ℕ) → total rows (coefficient x) fs ≡ pos 0
  pub no_divisor : (d : ℕ) → DividesEach d fs → d ≡ 1
  pub held_constant : IsTrue (is_held_total rows (λ row. row.constant) fs)
  pub held_variables : (x : ℕ) → IsTrue (is_held_total rows (coefficient x) fs)
