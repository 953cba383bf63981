use Rattle.std.proofs.Common.{◌<◌}
use Rattle.tests_parts.proofs.deciding.what_stands_is_answered_as_it_is_anew.Given as goal

abbrev pub invariant-loop : goal.invariant-loop
invariant-loop g l = l.pick < 64
