use Rattle.std.proofs.Common.{Some, sym, ap, ◌∙◌}
use Rattle.pure_terms.specs.EqualityLaws.{same_term-same}
use Rattle.pure_terms.specs.View.{term_view}
use Rattle.invariant_rows.proofs.comparing.has_same_term.Goals as goal

pub returns-in-Some-get : goal.returns-in-Some-get
returns-in-Some-get c = λ h.
    let same = same_term-same (term_view c.in-Some.first.now) (term_view c.in-Some-get.second.now) (sym c.eq.ensures ∙ h) in
    (term_view c.in-Some.first.now, (sym c.in-Some.ensures, sym c.in-Some-get.ensures ∙ ap Some (sym same)))
