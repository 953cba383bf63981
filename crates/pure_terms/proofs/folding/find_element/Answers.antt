use Rattle.std.proofs.Common.{FitsSigned, ◌∙◌, ap, rules}
use Rattle.std.proofs.lemmas.Int.{to_z-of_z}
use Rattle.std.specs.Int.{w128}
use Rattle.pure_terms.specs.Folding.{element_term}
use Rattle.pure_terms.specs.Pure.{from_list}
use Rattle.pure_terms.specs.View.{terms_view}
use Rattle.pure_terms.proofs.Folded.{nth_folds}
use Rattle.pure_terms.proofs.folding.find_element.Goals as goal

pub returns-in-Nth-Int-clause-folded : goal.returns-in-Nth-Int-clause-folded
returns-in-Nth-Int-clause-folded c =
    let fits : FitsSigned w128 c.in-Nth-Int.place = search rules in
    nth_folds (terms_view c.args.terms.now) c.args.op c.args.right.now c.in-Nth-Int.place _ c.in-Nth-Int.is-0 c.in-Nth-Int.is-1
    (c.place_in.ensures.element ∙ ap (element_term (from_list (terms_view c.args.terms.now))) (to_z-of_z w128 c.in-Nth-Int.place fits))
