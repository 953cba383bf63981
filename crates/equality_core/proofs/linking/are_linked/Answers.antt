use Rattle.std.proofs.Common.{◌≡◌, ◌++◌, reverse, sym, ap, ◌∙◌, subst}
use Rattle.std.proofs.lemmas.Bool.{false≢true}
use Rattle.pure_terms.specs.Equality.{same_term}
use Rattle.pure_terms.specs.EqualityLaws.{same_term-same, same_term-refl}
use Rattle.pure_terms.specs.Pure.{PureTerm}
use Rattle.pure_terms.specs.View.{term_view}
use Rattle.equality_core.specs.Classes.{classes_view, given_list}
use Rattle.equality_core.specs.Equating.{Equates, itself}
use Rattle.equality_core.proofs.Answering.{pair_leads, not_linked}
use Rattle.equality_core.proofs.Exact.{leads_equates}
use Rattle.equality_core.proofs.linking.are_linked.Goals as goal

pub returns-then-eq : goal.returns-then-eq
returns-then-eq c =
    let same : term_view c.args.s.now ≡ term_view c.args.t.now = same_term-same (term_view c.args.s.now) (term_view c.args.t.now) (sym c.eq.ensures ∙ c.if-eq.true) in
    subst (Equates (given_list (classes_view c.args.classes.now)) (term_view c.args.s.now)) same itself

pub returns-in-Some : goal.returns-in-Some
returns-in-Some c =
    let found = c.in-Some.ensures.found in
    leads_equates (classes_view c.args.classes.now) c.requires (found.first.node.chain ++ reverse found.second.node.chain) (term_view c.args.s.now) (term_view c.args.t.now)
    (pair_leads (classes_view c.args.classes.now) c.requires (term_view c.args.s.now) (term_view c.args.t.now) found.first.node found.second.node _ _ found.first.at found.second.at found.first.term found.second.term found.one)

pub returns-in-None : goal.returns-in-None
returns-in-None c =
    not_linked (classes_view c.args.classes.now) c.requires (term_view c.args.s.now) (term_view c.args.t.now)
    (λ same. false≢true (sym c.if-eq.false ∙ c.eq.ensures ∙ ap (λ (x : PureTerm). same_term x (term_view c.args.t.now)) same ∙ same_term-refl (term_view c.args.t.now)))
    c.in-None.ensures.none
