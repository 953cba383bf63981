use Rattle.solver_finite.proofs.assembling.+values_proof.Given as goal

abbrev pub decreases-values_proof : goal.decreases-values_proof
decreases-values_proof l = l.halvings
