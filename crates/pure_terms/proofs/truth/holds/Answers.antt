use Rattle.std.proofs.Common.{◌≡◌, Some, None, sym, ap, ◌∙◌}
use Rattle.gil_values.specs.View.{values_view}
use Rattle.pure_terms.specs.Direct.{truth_at}
use Rattle.pure_terms.specs.Pure.{term_of}
use Rattle.pure_terms.specs.View.{atom_view}
use Rattle.pure_terms.proofs.DirectLaws.{truth-value}
use Rattle.pure_terms.proofs.DirectSure.{moderate-truth}
use Rattle.pure_terms.proofs.truth.holds.Goals as goal

pub returns-in-Some-clause-ok : goal.returns-in-Some-clause-ok
returns-in-Some-clause-ok c =
    let v = values_view c.args.valuation.now in
    let t = term_of (atom_view c.args.atom.now) in
    let same : truth_at v t ≡ Some c.in-Some.truth = ap (truth_at v) (sym c.term.ensures) ∙ sym c.in-Some.ensures.truth in
    c.truth_of.ensures v (truth-value v t c.in-Some.truth same)

pub returns-in-None-clause-sure : goal.returns-in-None-clause-sure
returns-in-None-clause-sure c moderate =
    let v = values_view c.args.valuation.now in
    let t = term_of (atom_view c.args.atom.now) in
    let (b, is) = moderate-truth v (atom_view c.args.atom.now) moderate in
    let none : truth_at v t ≡ None = ap (truth_at v) (sym c.term.ensures) ∙ sym c.in-None.ensures.truth in
    absurd (cc)
