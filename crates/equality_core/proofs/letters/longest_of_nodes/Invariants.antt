use Rattle.std.proofs.Common.{◌≡◌, ◌≤◌, ◌<◌, ℕ, map, Some, slice_get}
use Rattle.equality_core.specs.Nodes.{PureNode, node_view}
use Rattle.equality_core.specs.Values.{letters_of_term}
use Rattle.equality_core.proofs.letters.longest_of_nodes.Given as goal

abbrev pub invariant-loop-node : goal.invariant-loop-node
invariant-loop-node l = (i : ℕ) (n : PureNode) → i < l.node-index → slice_get (map node_view l.nodes) i ≡ Some n → letters_of_term n.term ≤ l.longest
