use Rattle.std.proofs.Common.{◌≡◌, ◌<◌, [], ◌++◌, Some, length, reverse, sym, ap, ◌∙◌, subst, rules}
use Rattle.std.proofs.lemmas.Bool.{false≢true}
use Rattle.pure_terms.specs.Equality.{same_term}
use Rattle.pure_terms.specs.EqualityLaws.{same_term-same, same_term-refl}
use Rattle.pure_terms.specs.Pure.{PureTerm}
use Rattle.pure_terms.specs.View.{term_view}
use Rattle.solver_proof.specs.declared.proofs.Proof
use Rattle.solver_proof.specs.declared.proofs.Proof.{the_lemmas}
use Rattle.solver_proof.specs.Pure.{chain}
use Rattle.solver_proof.specs.View.{proof_view}
use Rattle.equality_core.specs.Classes.{classes_view, under_parts}
use Rattle.equality_core.specs.Classified.{IsChained}
use Rattle.equality_core.specs.Nodes.{node_view}
use Rattle.equality_core.proofs.Answering.{chain_closes, pair_leads, not_chained}
use Rattle.equality_core.proofs.Finding.{node_is, below_items}
use Rattle.equality_core.proofs.linking.chained.Goals as goal

pub returns-then-eq : goal.returns-then-eq
returns-then-eq c =
    let same : term_view c.args.s.now ≡ term_view c.args.t.now = same_term-same (term_view c.args.s.now) (term_view c.args.t.now) (sym c.eq.ensures ∙ c.if-eq.true) in
    let view : proof_view (Proof.Chain c.new.result c.args.end) ≡ chain c.new.result c.args.end = search (rules, the_lemmas) in
    let is : proof_view c.in_ok-under_parts.field-0 ≡ under_parts c.args.classes.now.opened.items (chain [] c.args.end) =
    c.in_ok-under_parts.ensures ∙ (λ i. under_parts (c.as_slice-opened.ensures.value i) (view i)) ∙ ap (λ is. under_parts c.args.classes.now.opened.items (chain is c.args.end)) c.new.ensures in
    subst (λ p. IsChained (classes_view c.args.classes.now) (term_view c.args.s.now) (term_view c.args.t.now) c.args.end (Some p)) (sym is)
    (chain_closes (classes_view c.args.classes.now) c.requires (term_view c.args.s.now) (term_view c.args.t.now) c.args.end [] same)

pub index-first-requires : goal.index-first-requires
index-first-requires c =
    let found = c.in-Some.ensures.found in
    let below : c.in-Some.pair.first < length c.args.classes.now.nodes.items.items = below_items c.args.classes.now.nodes.items.items c.in-Some.pair.first found.first.node found.first.at in
    search (rules, below)

pub index-second-requires : goal.index-second-requires
index-second-requires c =
    let found = c.in-Some.ensures.found in
    let below : c.in-Some.pair.second < length c.args.classes.now.nodes.items.items = below_items c.args.classes.now.nodes.items.items c.in-Some.pair.second found.second.node found.second.at in
    search (rules, below)

pub returns-in_ok-chain_proof-in-Some : goal.returns-in_ok-chain_proof-in-Some
returns-in_ok-chain_proof-in-Some c =
    let found = c.in-Some.ensures.found in
    let m : found.first.node ≡ node_view c.index-first.result.now = node_is c.args.classes.now.nodes.items.items c.in-Some.pair.first c.index-first.result.now found.first.node found.first.at c.index-first.ensures in
    let n : found.second.node ≡ node_view c.index-second.result.now = node_is c.args.classes.now.nodes.items.items c.in-Some.pair.second c.index-second.result.now found.second.node found.second.at c.index-second.ensures in
    let is : proof_view c.in_ok-chain_proof-in-Some.field-0 ≡ under_parts c.args.classes.now.opened.items (chain (found.first.node.chain ++ reverse found.second.node.chain) c.args.end) =
    c.in_ok-chain_proof-in-Some.ensures ∙ (λ i. under_parts (c.as_slice-opened.ensures.value i) (chain ((sym m i).chain ++ reverse (sym n i).chain) c.args.end)) in
    subst (λ p. IsChained (classes_view c.args.classes.now) (term_view c.args.s.now) (term_view c.args.t.now) c.args.end (Some p)) (sym is)
    (chain_closes (classes_view c.args.classes.now) c.requires (term_view c.args.s.now) (term_view c.args.t.now) c.args.end (found.first.node.chain ++ reverse found.second.node.chain)
    (pair_leads (classes_view c.args.classes.now) c.requires (term_view c.args.s.now) (term_view c.args.t.now) found.first.node found.second.node c.in-Some.pair.first c.in-Some.pair.second found.first.at found.second.at found.first.term found.second.term found.one))

pub returns-in-None : goal.returns-in-None
returns-in-None c =
    not_chained (classes_view c.args.classes.now) c.requires (term_view c.args.s.now) (term_view c.args.t.now) c.args.end
    (λ same. false≢true (sym c.if-eq.false ∙ c.eq.ensures ∙ ap (λ (x : PureTerm). same_term x (term_view c.args.t.now)) same ∙ same_term-refl (term_view c.args.t.now)))
    c.in-None.ensures.none
