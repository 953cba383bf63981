use Rattle.equality_core.specs.Nodes.{ShareEnd}
use Rattle.equality_core.proofs.nodes.shared_end.Given as goal

abbrev pub invariant-loop-count : goal.invariant-loop-count
invariant-loop-count l = ShareEnd l.first l.second l.count
