use Rattle.std.proofs.Common.{List, ◌++◌, map}
use Rattle.std.specs.Vec.Iter.{into_iter_items, into_iter_len}
use Rattle.std.proofs.Common.{◌≡◌, length}
use Rattle.equality_core.specs.Nodes.{PureNode, node_view, nodes_view, ArePaired, IsMoved}
use Rattle.equality_core.proofs.nodes.all_moved.Given as goal

abbrev pub invariant-loop-node : goal.invariant-loop-node
invariant-loop-node l = record {
  len : into_iter_len l.node-iterator ≡ length (into_iter_items l.node-iterator);
  rest : (ns : List PureNode) → ArePaired (IsMoved l.from l.into l.back l.onward) (map node_view (into_iter_items l.node-iterator)) ns
      → ArePaired (IsMoved l.from l.into l.back l.onward) (nodes_view l.fn.nodes) (map node_view l.all.items ++ ns);
}
