use Rattle.std.proofs.Common.{◌≡◌, ◌<◌, ℕ, map, Some, slice_get}
use Rattle.pure_terms.specs.declared.literals.Literal.{Literal}
use Rattle.pure_terms.specs.Pure.{literal}
use Rattle.equality_core.specs.Nodes.{PureNode, node_view}
use Rattle.equality_core.proofs.rooting.literal_with.Given as goal

abbrev pub invariant-loop-node : goal.invariant-loop-node
invariant-loop-node l = (i : ℕ) (n : PureNode) (k : Literal) → i < l.node-index → slice_get (map node_view l.nodes) i ≡ Some n → n.root ≡ l.root → n.term ≡ literal k → ⊥
