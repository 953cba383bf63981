use Rattle.std.proofs.Common.{length}
use Rattle.solver_rules.proofs.atoms.+elements_differ.Given as goal

abbrev pub decreases-elements_differ : goal.decreases-elements_differ
decreases-elements_differ l = length l.left.now
