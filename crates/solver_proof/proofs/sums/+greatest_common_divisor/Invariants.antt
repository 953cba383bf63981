use Rattle.solver_proof.proofs.sums.+greatest_common_divisor.Given as goal

abbrev pub decreases-greatest_common_divisor : goal.decreases-greatest_common_divisor
decreases-greatest_common_divisor l = l.n
