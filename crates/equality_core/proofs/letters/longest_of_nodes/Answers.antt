use Rattle.std.proofs.Common.{◌≤◌, ℕ, arith}
use Rattle.equality_core.specs.Nodes.{node_view}
use Rattle.equality_core.specs.Values.{letters_of_term}
use Rattle.equality_core.proofs.Finding.{each_more, each_all}
use Rattle.equality_core.proofs.letters.longest_of_nodes.Goals as goal

pub loop-node-preserved : goal.loop-node-preserved
loop-node-preserved c =
    each_more node_view c.args.nodes.now (λ k n. letters_of_term n.term ≤ c.max-longest.result) c.loop-node.node-index c.node-item.result c.loop-node-test.true c.node-item.is
    (λ k n below at. still (letters_of_term n.term) (c.loop-node.invariant k n below at)) here where
      still : (m : ℕ) → m ≤ c.loop-node.longest → m ≤ c.max-longest.result
      still m h = omega (arith, h, c.max-longest.ensures)

      here : letters_of_term (node_view c.node-item.result).term ≤ c.max-longest.result
      here = omega (arith, c.letters_of_term.ensures, c.max-longest.ensures)

pub returns : goal.returns
returns c = each_all node_view c.args.nodes.now (λ k n. letters_of_term n.term ≤ c.loop-node.longest) c.loop-node.node-index c.loop-node-test.false c.loop-node.invariant
