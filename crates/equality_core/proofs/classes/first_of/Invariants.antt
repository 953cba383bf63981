use Rattle.std.proofs.Common.{◌≡◌, map, drop}
use Rattle.equality_core.specs.Classified.{first_of}
use Rattle.equality_core.specs.Nodes.{node_view}
use Rattle.equality_core.proofs.classes.first_of.Given as goal

abbrev pub invariant-loop-node : goal.invariant-loop-node
invariant-loop-node l = first_of (map node_view l.nodes) l.root l.wanted ≡ first_of (map node_view (drop l.node-index l.nodes)) l.root l.wanted
