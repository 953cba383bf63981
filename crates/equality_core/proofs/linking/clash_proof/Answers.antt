use Rattle.std.proofs.Common.{◌≡◌, ℕ, ◌++◌, List, length, map, reverse, Some, slice_get, sym, ap, ◌∙◌, subst}
use Rattle.solver_proof.specs.Closing.{Closes}
use Rattle.solver_proof.specs.Pure.{chain}
use Rattle.solver_proof.specs.View.{proof_view}
use Rattle.equality_core.specs.declared.nodes.Node.{Node}
use Rattle.equality_core.specs.Classes.{classes_view, given_list, under_parts}
use Rattle.equality_core.specs.Nodes.{PureNode, node_view, ClashesWithNone}
use Rattle.equality_core.proofs.Answering.{clash_closes_in, cleared}
use Rattle.equality_core.proofs.Finding.{node_is}
use Rattle.equality_core.proofs.linking.clash_proof.Goals as goal

pub returns-in_ok-chain_proof-in-Some : goal.returns-in_ok-chain_proof-in-Some
returns-in_ok-chain_proof-in-Some c = λ vars.
    let found = c.in-Some.ensures.found in
    let first : found.first ≡ node_view c.index-nodes-clash.result = node_is c.as_slice-nodes.result.now c.in-Some.clash.first c.index-nodes-clash.result found.first found.at_first c.index-nodes-clash.is in
    let second : found.second ≡ node_view c.index-nodes-clash-in-Some.result = node_is c.as_slice-nodes.result.now c.in-Some.clash.second c.index-nodes-clash-in-Some.result found.second found.at_second c.index-nodes-clash-in-Some.is in
    let is : proof_view c.in_ok-chain_proof-in-Some.field-0 ≡ under_parts c.args.classes.now.opened.items (chain (found.first.chain ++ reverse found.second.chain) c.in-Some.clash.end) =
    c.in_ok-chain_proof-in-Some.ensures ∙ (λ i. under_parts (c.as_slice-opened.ensures.value i) (chain ((sym first i).chain ++ reverse (sym second i).chain) c.in-Some.clash.end)) in
    subst (Closes vars (given_list (classes_view c.args.classes.now))) (sym is)
    (clash_closes_in (classes_view c.args.classes.now) (length (classes_view c.args.classes.now).list) vars c.in-Some.clash (map node_view c.as_slice-nodes.result.now) (ap (map node_view) c.as_slice-nodes.ensures.value) c.requires found)

pub returns-in-None : goal.returns-in-None
returns-in-None c =
    cleared (classes_view c.args.classes.now) c.requires
    (subst (λ (xs : List Node). (i : ℕ) (n : PureNode) → slice_get (map node_view xs) i ≡ Some n → ClashesWithNone n (map node_view xs)) c.as_slice-nodes.ensures.value c.in-None.ensures.none)
