-- Rows as differences of the numbers of two nodes. The node 0 is where numbers are counted from, and x + 1 is the node of
-- the variable x.
use Rattle.std.specs.Prelude.{◌≡◌, ℕ, ◌+◌, ◌<◌, ◌^◌, ℤ, pos, neg_ℤ, ◌-ℤ◌, List, [], ◌∷◌, slice_get, Some, Bool, ◌||◌, not, if◌then◌else◌, IsTrue, nat_eq}
use Rattle.std.specs.Ordering.{int_eq}
use Rattle.pure_terms.specs.Numbers.{is_between}
use Rattle.linear_core.specs.declared.differences.Difference.{Difference}
use Rattle.linear_core.specs.declared.rows.Coefficient.{Coefficient}
use Rattle.linear_core.specs.declared.rows.Row.{Row}
use Rattle.linear_core.specs.Combining.{is_equality}

-- the node of the first variable with this factor, and the node 0 where there is none
abbrev pub node_with : ℤ → List Coefficient → ℕ
node_with f [] = 0
node_with f (c ∷ cs) = if int_eq c.factor f then c.variable + 1 else node_with f cs

abbrev pub difference_of : Row → Difference
difference_of row =
    record {
      plus = node_with (pos 1) row.coefficients;
      minus = node_with (neg_ℤ (pos 1)) row.coefficients;
      constant = row.constant;
      is_equal = is_equality row.relation;
    }

-- the coefficient of a node in a difference
abbrev pub one_if : ℕ → ℕ → ℤ
one_if x y = if nat_eq x y then pos 1 else pos 0

abbrev pub coefficient_at : ℕ → Difference → ℤ
coefficient_at x d = one_if x d.plus -ℤ one_if x d.minus

-- the difference is one of these many nodes, with a constant that isn't far from 0
pub record IsNarrow (count : ℕ) (d : Difference) : Type 0 where
  pub plus : d.plus < count
  pub minus : d.minus < count
  pub constant : IsTrue (is_between (neg_ℤ (pos (2 ^ 82))) (pos (2 ^ 82)) d.constant)

abbrev pub AreNarrow : ℕ → List Difference → Type 0
AreNarrow count differences = (k : ℕ) (d : Difference) → slice_get differences k ≡ Some d → IsNarrow count d

-- A difference can be followed from one of its nodes to the other: from `minus` to `plus`, whose number is at most that
-- of `minus` less the constant; and, where it is an equality, back.
abbrev pub tail_of : Difference → Bool → ℕ
tail_of d backwards = if backwards then d.plus else d.minus

abbrev pub head_of : Difference → Bool → ℕ
head_of d backwards = if backwards then d.minus else d.plus

abbrev pub weight_of : Difference → Bool → ℤ
weight_of d backwards = if backwards then d.constant else neg_ℤ d.constant

abbrev pub may_go : Difference → Bool → Bool
may_go d backwards = not backwards || d.is_equal
