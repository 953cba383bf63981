use Rattle.std.proofs.Common.{◌≡◌, ℕ, ◌<◌, map, Some, slice_get}
use Rattle.equality_core.specs.Nodes.{PureNode, node_view, ClashesWithNone}
use Rattle.equality_core.proofs.clashes.find_clash.Given as goal

abbrev pub invariant-loop-first : goal.invariant-loop-first
invariant-loop-first l = (i : ℕ) (n : PureNode) → i < l.first → slice_get (map node_view l.nodes) i ≡ Some n → ClashesWithNone n (map node_view l.nodes)
