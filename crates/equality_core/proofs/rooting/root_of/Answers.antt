use Rattle.std.proofs.Common.{◌≡◌, Some, sym, ap, ◌∙◌, rules}
use Rattle.pure_terms.specs.declared.terms.Term.{Term, the_lemmas}
use Rattle.pure_terms.specs.Pure.{variable}
use Rattle.pure_terms.specs.View.{term_view}
use Rattle.equality_core.specs.Nodes.{PureNode, node_view, nodes_view, root_of}
use Rattle.equality_core.proofs.Finding.{node_is}
use Rattle.equality_core.proofs.rooting.root_of.Goals as goal

pub returns-in-Some : goal.returns-in-Some
returns-in-Some c =
    let found = c.in-Some.ensures.found in
    let view : term_view (Term.Var c.args.x) ≡ variable c.args.x = search (rules, the_lemmas) in
    let node : found.node ≡ node_view c.index.result.now = node_is c.args.nodes.now.items.items c.in-Some.place c.index.result.now found.node found.at c.index.ensures in
    sym (ap (root_of (nodes_view c.args.nodes.now)) (sym view) ∙ found.root ∙ ap (λ (n : PureNode). Some n.root) node)
