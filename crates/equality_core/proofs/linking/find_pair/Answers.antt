use Rattle.std.proofs.Common.{sym, ap, ◌∙◌}
use Rattle.std.proofs.lemmas.Option.{same_Some}
use Rattle.equality_core.specs.Nodes.{PureNode}
use Rattle.equality_core.proofs.Finding.{node_is}
use Rattle.equality_core.proofs.linking.find_pair.Goals as goal

pub returns-then-index-clause-found : goal.returns-then-index-clause-found
returns-then-index-clause-found c =
    let first = c.in-Some.ensures.found in
    let second = c.in-Some-find.ensures.found in
    record {
      first = first;
      second = second;
      one = ap (λ (n : PureNode). n.root) (node_is c.args.nodes.now.items.items c.in-Some.first c.index.result.now first.node first.at c.index.ensures) ∙ c.if-index.true
          ∙ sym (ap (λ (n : PureNode). n.root) (node_is c.args.nodes.now.items.items c.in-Some-find.second c.index-in-Some-find.result.now second.node second.at c.index-in-Some-find.ensures));
    }

pub returns-else-index-clause-none : goal.returns-else-index-clause-none
returns-else-index-clause-none c = λ united.
    let first = c.in-Some.ensures.found in
    let second = c.in-Some-find.ensures.found in
    c.if-index.false
    (sym (ap (λ (n : PureNode). n.root) (node_is c.args.nodes.now.items.items c.in-Some.first c.index.result.now first.node first.at c.index.ensures))
    ∙ same_Some first.node.root united.root (sym first.root ∙ united.left) ∙ same_Some united.root second.node.root (sym united.right ∙ second.root)
    ∙ ap (λ (n : PureNode). n.root) (node_is c.args.nodes.now.items.items c.in-Some-find.second c.index-in-Some-find.result.now second.node second.at c.index-in-Some-find.ensures))
