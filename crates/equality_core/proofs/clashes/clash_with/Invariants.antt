use Rattle.std.proofs.Common.{◌≡◌, ℕ, ◌<◌, map, Some, None, slice_get}
use Rattle.equality_core.specs.Nodes.{PureNode, node_view, clash_end}
use Rattle.equality_core.proofs.clashes.clash_with.Given as goal

abbrev pub invariant-loop-second : goal.invariant-loop-second
invariant-loop-second l = (i : ℕ) (n : PureNode) → i < l.second → slice_get (map node_view l.nodes) i ≡ Some n → clash_end (node_view l.node) n ≡ None
