use Rattle.std.proofs.Common.{◌≡◌, List, [], map, sym, ◌∙◌, subst}
use Rattle.std.specs.Vec.Iter.{into_iter_items}
use Rattle.std.proofs.lemmas.List.{append-nil, nil_from_length}
use Rattle.equality_core.specs.declared.nodes.Node.{Node}
use Rattle.equality_core.specs.Nodes.{node_view, nodes_view, ArePaired, IsMoved}
use Rattle.equality_core.proofs.nodes.all_moved.Goals as goal

pub returns : goal.returns
returns c =
    let none : into_iter_items c.loop-node.node-iterator ≡ [] = nil_from_length (into_iter_items c.loop-node.node-iterator) (sym c.loop-node.invariant.len ∙ c.in-None.ensures.steps.0) in
    let paired = c.loop-node.invariant.rest [] (subst (λ (xs : List Node). ArePaired (IsMoved c.args.from c.args.into c.args.back.now c.args.onward.now) (map node_view xs) []) (sym none) tt) in
    subst (ArePaired (IsMoved c.args.from c.args.into c.args.back.now c.args.onward.now) (nodes_view c.args.nodes)) (append-nil (map node_view c.loop-node.all.items)) paired
