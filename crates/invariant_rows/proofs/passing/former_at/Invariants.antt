use Rattle.std.proofs.Common.{◌≡◌, drop}
use Rattle.checked_paths.specs.View.{all_passed_view}
use Rattle.invariant_rows.specs.Passing.{former_at}
use Rattle.invariant_rows.proofs.passing.former_at.Given as goal

abbrev pub invariant-loop-passed : goal.invariant-loop-passed
invariant-loop-passed g l = former_at l.at (all_passed_view l.passed-items) ≡ former_at l.at (all_passed_view (drop l.passed-index l.passed-items))
