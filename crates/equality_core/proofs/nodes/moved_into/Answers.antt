use Rattle.std.proofs.Common.{◌≡◌, ◌∷◌, ◌++◌, ap, ◌∙◌, subst}
use Rattle.equality_core.specs.declared.nodes.Node.{Node}
use Rattle.equality_core.specs.declared.nodes.Nodes.{Nodes}
use Rattle.equality_core.specs.Nodes.{node_view, nodes_view, ArePaired, IsMoved, IsMovedInto}
use Rattle.equality_core.proofs.Finding.{view_at, less_items, same_read, ok_then}
use Rattle.equality_core.proofs.nodes.moved_into.Goals as goal

pub returns : goal.returns
returns c =
    let from = less_items c.args.nodes.items.items c.args.from c.requires.from in
    let into = less_items c.args.nodes.items.items c.args.into c.requires.into in
    let first : c.index-3.result.now ≡ c.index.result.now = same_read c.args.nodes.items.items c.args.from c.index-3.result.now c.index.result.now from c.index-3.ensures c.index.ensures in
    let second : c.index-4.result.now ≡ c.index-2.result.now = same_read c.args.nodes.items.items c.args.into c.index-4.result.now c.index-2.result.now into c.index-4.ensures c.index-2.ensures in
    let back : c.as_slice-3.result.now ≡ c.index.result.now.chain.items =
    c.as_slice-3.ensures.value ∙ c.in_ok-extend_from_slice.ensures.items ∙ ap (λ xs. xs ++ c.as_slice.result.now) c.new-back.ensures.items ∙ c.as_slice.ensures.value ∙ ap (λ (n : Node). n.chain.items) first in
    let next : c.as_slice-4.result.now ≡ c.args.place ∷ c.index-2.result.now.chain.items =
    c.as_slice-4.ensures.value ∙ c.in_ok-next.ensures ∙ ap (λ xs. c.args.place ∷ xs) (c.as_slice-2.ensures.value ∙ ap (λ (n : Node). n.chain.items) second) in
    ok_then c.all_moved.result
    (λ (n : Nodes). ArePaired (IsMoved c.index.result.now.root c.index-2.result.now.root c.as_slice-3.result.now c.as_slice-4.result.now) (nodes_view c.args.nodes) (nodes_view n))
    (λ (n : Nodes). IsMovedInto (nodes_view c.args.nodes) c.args.from c.args.into c.args.place (nodes_view n))
    (λ n is. record {
      first = node_view c.index.result.now;
      second = node_view c.index-2.result.now;
      at_from = view_at c.args.nodes.items.items c.args.from c.index.result.now from c.index.ensures;
      at_into = view_at c.args.nodes.items.items c.args.into c.index-2.result.now into c.index-2.ensures;
      moved = subst (λ xs. ArePaired (IsMoved c.index.result.now.root c.index-2.result.now.root c.index.result.now.chain.items xs) (nodes_view c.args.nodes) (nodes_view n)) next (subst (λ xs. ArePaired (IsMoved c.index.result.now.root c.index-2.result.now.root xs c.as_slice-4.result.now) (nodes_view c.args.nodes) (nodes_view n)) back is);
    }) c.all_moved.ensures
