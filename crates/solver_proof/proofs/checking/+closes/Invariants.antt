use Rattle.std.proofs.Common.{◌+◌, ◌*◌, take}
use Rattle.solver_proof.specs.Closing.{CloseEach}
use Rattle.solver_proof.specs.Lists.{list_view, appended_view}
use Rattle.solver_proof.specs.Pure.{from_list}
use Rattle.solver_proof.specs.View.{proof_view, proofs_view}
use Rattle.solver_proof.proofs.Sizes.{proof_size, proofs_size}
use Rattle.solver_proof.proofs.checking.+closes.Given as goal

abbrev pub decreases-closes : goal.decreases-closes
decreases-closes l = 2 * proof_size (proof_view l.proof.now)

abbrev pub decreases-cases_close : goal.decreases-cases_close
decreases-cases_close l = 2 * proofs_size (from_list (proofs_view l.proofs.now)) + 1

abbrev pub decreases-values_close : goal.decreases-values_close
decreases-values_close l = 2 * proofs_size (from_list (proofs_view l.proofs.now)) + 1

abbrev pub decreases-differ_closes : goal.decreases-differ_closes
decreases-differ_closes l = 2 * proofs_size (from_list (proofs_view l.proofs.now)) + 1

abbrev pub decreases-parts_close : goal.decreases-parts_close
decreases-parts_close l = 2 * proof_size (proof_view l.proof.now) + 1

abbrev pub decreases-split_closes : goal.decreases-split_closes
decreases-split_closes l = 2 * (proof_size (proof_view l.first.now) + proof_size (proof_view l.second.now)) + 1

abbrev pub decreases-close_each : goal.decreases-close_each
decreases-close_each l = 2 * proofs_size (from_list (proofs_view l.proofs.now))

abbrev pub invariant-close_each-loop-index : goal.invariant-close_each-loop-index
invariant-close_each-loop-index l = CloseEach l.vars (list_view l.list) (take l.index (appended_view l.more)) (from_list (take l.index (proofs_view l.proofs)))
