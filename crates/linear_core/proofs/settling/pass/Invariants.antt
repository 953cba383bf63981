use Rattle.std.proofs.Common.{◌≡◌, ℕ, ◌<◌, ◌≤◌, true, false, Some, slice_get, length}
use Rattle.linear_core.specs.declared.differences.Difference.{Difference}
use Rattle.linear_core.specs.Walks.{AreReached, IsMet, height, row_at_turn}
use Rattle.linear_core.proofs.settling.pass.Given as goal

abbrev pub invariant-loop-turn : goal.invariant-loop-turn
invariant-loop-turn l = record {
  same_length : length l.reaches ≡ length l.fn.reaches;
  reached : AreReached l.differences l.reaches;
  low : height l.reaches ≤ height l.fn.reaches;
  falls : l.moved ≡ true → height l.reaches < height l.fn.reaches;
  met : l.moved ≡ false → (t : ℕ) (d : Difference) → t < l.turn → slice_get l.differences (row_at_turn (length l.differences) l.from_last t) ≡ Some d → IsMet l.reaches d;
}
