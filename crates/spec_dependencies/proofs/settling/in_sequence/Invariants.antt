use Rattle.std.proofs.Common.{◌≡◌}
use Rattle.spec_dependencies.proofs.settling.in_sequence.Given as goal

abbrev pub invariant-loop-entry : goal.invariant-loop-entry
invariant-loop-entry l = l.sequence ≡ l.yielded
