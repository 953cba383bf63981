use Rattle.std.proofs.Common.{inl, refl}
use Rattle.equality_core.specs.declared.nodes.Nodes.{Nodes}
use Rattle.equality_core.specs.Nodes.{node_view, nodes_view, IsMovedInto, AreJoined}
use Rattle.equality_core.proofs.Finding.{view_at, less_items, ok_then}
use Rattle.equality_core.proofs.Noding.{joined_left, joined_right}
use Rattle.equality_core.proofs.nodes.joined.Goals as goal

pub returns-then-first-second : goal.returns-then-first-second
returns-then-first-second c =
    record {
      first = node_view c.index.result.now;
      second = node_view c.index-2.result.now;
      at_left = view_at c.args.nodes.items.items c.args.left c.index.result.now (less_items c.args.nodes.items.items c.args.left c.requires.left) c.index.ensures;
      at_right = view_at c.args.nodes.items.items c.args.right c.index-2.result.now (less_items c.args.nodes.items.items c.args.right c.requires.right) c.index-2.ensures;
      either = inl (c.if-first-second.true, refl);
    }

pub returns-then-class_size : goal.returns-then-class_size
returns-then-class_size c =
    ok_then c.moved_into.result
    (λ (n : Nodes). IsMovedInto (nodes_view c.args.nodes) c.args.left c.args.right c.args.place (nodes_view n))
    (λ (n : Nodes). AreJoined (nodes_view c.args.nodes) c.args.left c.args.right c.args.place (nodes_view n))
    (λ n is. joined_left (nodes_view c.args.nodes) c.args.left c.args.right c.args.place (nodes_view n) (node_view c.index.result.now) (node_view c.index-2.result.now)
    (view_at c.args.nodes.items.items c.args.left c.index.result.now (less_items c.args.nodes.items.items c.args.left c.requires.left) c.index.ensures)
    (view_at c.args.nodes.items.items c.args.right c.index-2.result.now (less_items c.args.nodes.items.items c.args.right c.requires.right) c.index-2.ensures)
    c.if-first-second.false is) c.moved_into.ensures

pub returns : goal.returns
returns c =
    ok_then c.moved_into-2.result
    (λ (n : Nodes). IsMovedInto (nodes_view c.args.nodes) c.args.right c.args.left c.args.place (nodes_view n))
    (λ (n : Nodes). AreJoined (nodes_view c.args.nodes) c.args.left c.args.right c.args.place (nodes_view n))
    (λ n is. joined_right (nodes_view c.args.nodes) c.args.left c.args.right c.args.place (nodes_view n) (node_view c.index.result.now) (node_view c.index-2.result.now)
    (view_at c.args.nodes.items.items c.args.left c.index.result.now (less_items c.args.nodes.items.items c.args.left c.requires.left) c.index.ensures)
    (view_at c.args.nodes.items.items c.args.right c.index-2.result.now (less_items c.args.nodes.items.items c.args.right c.requires.right) c.index-2.ensures)
    c.if-first-second.false is) c.moved_into-2.ensures
