use Rattle.std.proofs.Common.{◌≡◌, IfSome, false, sym, ap, ◌∙◌, subst, rules}
use Rattle.gil_values.specs.View.{values_view}
use Rattle.pure_terms.specs.declared.terms.Term.{the_lemmas}
use Rattle.pure_terms.specs.Pure.{binary_of}
use Rattle.pure_terms.specs.View.{term_view}
use Rattle.pure_terms.specs.Wide.{has_wide_part}
use Rattle.pure_terms.proofs.DirectLaws.{comparison-narrow}
use Rattle.pure_terms.proofs.direct.direct_truth.Goals as goal

pub returns-in-Op2-clause-narrow : goal.returns-in-Op2-clause-narrow
returns-in-Op2-clause-narrow c =
    let v = values_view c.args.valuation.now in
    let s = term_view c.deref.result.now in
    let t = term_view c.deref-in-Op2.result.now in
    let from : term_view c.args.term.now ≡ binary_of c.in-Op2.op s t = ap term_view c.in-Op2.is ∙ search (rules, the_lemmas) in
    subst (λ u. IfSome c.compare.result (λ _. has_wide_part v u ≡ false)) (sym from)
    (comparison-narrow v c.in-Op2.op s t c.compare.result c.compare.ensures.truth c.compare.ensures.narrow)
