use Rattle.std.proofs.Common.{◌≡◌, map, drop}
use Rattle.pure_terms.specs.View.{term_view}
use Rattle.equality_core.specs.Nodes.{node_view, root_of}
use Rattle.equality_core.proofs.nodes.find.Given as goal

abbrev pub invariant-loop-place : goal.invariant-loop-place
invariant-loop-place l = root_of (map node_view l.nodes.items.items) (term_view l.term) ≡ root_of (map node_view (drop l.place l.nodes.items.items)) (term_view l.term)
