use Rattle.std.proofs.Common.{◌≡◌, length}
use Rattle.linear_core.specs.Walks.{AreReached, height}
use Rattle.linear_core.proofs.settling.settle.Given as goal

abbrev pub invariant-turns : goal.invariant-turns
invariant-turns l = record {
  same_length : length l.reaches ≡ length l.fn.reaches;
  reached : AreReached l.differences l.reaches;
}

abbrev pub decreases-turns : goal.decreases-turns
decreases-turns l = height l.reaches
