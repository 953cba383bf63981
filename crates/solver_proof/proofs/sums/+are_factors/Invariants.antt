use Rattle.std.proofs.Common.{length}
use Rattle.solver_proof.proofs.sums.+are_factors.Given as goal

abbrev pub decreases-are_factors : goal.decreases-are_factors
decreases-are_factors l = length l.factors.now
