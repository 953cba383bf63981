use Rattle.std.proofs.Common.{◌≡◌, ◌<◌, length, get_or, List, sym, ◌∙◌, subst}
use Rattle.equality_core.specs.declared.nodes.Node.{Node}
use Rattle.pure_terms.specs.View.{term_view}
use Rattle.equality_core.proofs.Finding.{found_at}
use Rattle.equality_core.proofs.nodes.find.Goals as goal

pub returns-then-eq-clause-found : goal.returns-then-eq-clause-found
returns-then-eq-clause-found c =
    found_at c.args.nodes.now.items.items c.loop-place.place c.node-item.result (term_view c.args.term.now)
    (subst (λ (xs : List Node). c.loop-place.place < length xs) c.deref-node-items.ensures.value c.loop-place-test.true)
    (subst (λ (xs : List Node). c.node-item.result ≡ get_or xs c.loop-place.place c.node-item.result) c.deref-node-items.ensures.value c.node-item.is)
    (sym c.eq.ensures ∙ c.if-eq.true)
    c.loop-place.invariant
