use Rattle.std.proofs.Common.{◌≡◌, ◌++◌}
use Rattle.footprint.proofs.leaves.push_all.Given as goal

abbrev pub invariant-loop-item : goal.invariant-loop-item
invariant-loop-item g l = l.list ≡ l.fn.list ++ l.yielded
