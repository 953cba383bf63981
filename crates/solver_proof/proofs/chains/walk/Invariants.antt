use Rattle.std.proofs.Common.{◌≡◌, take, Some}
use Rattle.solver_proof.specs.Lists.{list_view, side_view}
use Rattle.solver_proof.specs.Walks.{walk_from}
use Rattle.solver_proof.proofs.chains.walk.Given as goal

abbrev pub invariant-loop-index : goal.invariant-loop-index
invariant-loop-index l = walk_from (list_view l.list) (take l.index l.places) (side_view l.from) ≡ Some (side_view l.at)
