-- What is answered on rows.
use Rattle.std.specs.Prelude.{ℕ, ◌^◌, pos, neg_ℤ, List, slice_get, not, IsTrue, IsSomeAnd}
use Rattle.std.specs.List.{list_all}
use Rattle.gil_values.specs.Pure.{PureValue}
use Rattle.gil_values.specs.View.{values_view}
use Rattle.pure_terms.specs.Deciding.{has_numbers_between}
use Rattle.pure_terms.specs.declared.variables.Sort.{Sort}
use Rattle.pure_terms.specs.Meaning.{IsProper}
use Rattle.solver_proof.specs.declared.proofs.Factor.{Factor}
use Rattle.linear_core.specs.declared.answers.Linear.{Linear}
use Rattle.linear_core.specs.declared.rows.Row.{Row}
use Rattle.linear_core.specs.Combining.{IsCombination}
use Rattle.linear_core.specs.Differences.{is_narrow_difference}
use Rattle.linear_core.specs.Rows.{MeetsAll}

pub data PureLinear : Type 0 where
  whole_numbers : List PureValue → PureLinear
  combination : List Factor → PureLinear
  beyond : ℕ → PureLinear

abbrev pub linear_view : Linear → PureLinear
linear_view (Linear.Integer v) = whole_numbers (values_view v)
linear_view (Linear.Combination fs) = combination fs
linear_view (Linear.Beyond i) = beyond i

-- the valuation is proper, meets each row, and has numbers from -2^124 to 2^124
pub record IsSolution (vars : List Sort) (rows : List Row) (v : List PureValue) : Type 0 where
  pub proper : IsProper vars v
  pub met : MeetsAll v rows
  pub moderate : IsTrue (list_all (has_numbers_between (neg_ℤ (pos (2 ^ 124))) (pos (2 ^ 124))) v)

-- what may be answered: numbers that meet the rows, a combination of rows, or the place of a row that
-- isn't always decided
abbrev pub IsRight : List Sort → List Row → PureLinear → Type 0
IsRight vars rows (whole_numbers v) = IsSolution vars rows v
IsRight vars rows (combination fs) = IsCombination rows fs
IsRight vars rows (beyond i) = IsSomeAnd (slice_get rows i) (λ row. IsTrue (not (is_narrow_difference row)))
