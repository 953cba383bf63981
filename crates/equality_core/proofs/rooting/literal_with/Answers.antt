use Rattle.std.proofs.Common.{◌≡◌}
use Rattle.pure_terms.specs.declared.literals.Literal.{Literal}
use Rattle.pure_terms.specs.Pure.{literal}
use Rattle.equality_core.specs.Nodes.{node_view}
use Rattle.equality_core.proofs.Finding.{view_at, each_more, each_all}
use Rattle.equality_core.proofs.rooting.literal_with.Goals as goal

pub returns-in-Some-clause-found : goal.returns-in-Some-clause-found
returns-in-Some-clause-found c = record {
  place = c.loop-node.node-index;
  node = node_view c.node-item.result;
  at = view_at c.args.nodes.now c.loop-node.node-index c.node-item.result c.loop-node-test.true c.node-item.is;
  one = c.in-Some.ensures.found.0;
  is = c.in-Some.ensures.found.1;
}

pub loop-node-preserved : goal.loop-node-preserved
loop-node-preserved c = λ i n k below at one is.
    each_more node_view c.args.nodes.now (λ i n. (k : Literal) → n.root ≡ c.args.root → n.term ≡ literal k → ⊥) c.loop-node.node-index c.node-item.result c.loop-node-test.true c.node-item.is
    (λ i n below at k one is. c.loop-node.invariant i n k below at one is) c.in_default.ensures.none i n below at k one is

pub returns-clause-none : goal.returns-clause-none
returns-clause-none c = λ i n k at one is.
    each_all node_view c.args.nodes.now (λ i n. (k : Literal) → n.root ≡ c.args.root → n.term ≡ literal k → ⊥) c.loop-node.node-index c.loop-node-test.false
    (λ i n below at k one is. c.loop-node.invariant i n k below at one is) i n at k one is
