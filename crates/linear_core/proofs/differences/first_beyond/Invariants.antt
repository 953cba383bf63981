use Rattle.std.proofs.Common.{◌≡◌, ℕ, ◌<◌, Some, slice_get, true}
use Rattle.linear_core.specs.declared.rows.Row.{Row}
use Rattle.linear_core.specs.Differences.{is_narrow_difference}
use Rattle.linear_core.proofs.differences.first_beyond.Given as goal

abbrev pub invariant-loop-index : goal.invariant-loop-index
invariant-loop-index l = (k : ℕ) (row : Row) → k < l.index → slice_get l.rows k ≡ Some row → is_narrow_difference row ≡ true
