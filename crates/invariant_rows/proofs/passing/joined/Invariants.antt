use Rattle.std.proofs.Common.{◌≡◌, ◌++◌}
use Rattle.checked_paths.specs.View.{all_passed_view}
use Rattle.invariant_rows.proofs.passing.joined.Given as goal

abbrev pub invariant-loop-passed : goal.invariant-loop-passed
invariant-loop-passed g l = all_passed_view l.joined ≡ all_passed_view l.fn.first ++ all_passed_view l.yielded
