use Rattle.std.proofs.Common.{sym, ap, ◌∙◌}
use Rattle.pure_terms.specs.EqualityLaws.{same_term-same}
use Rattle.pure_terms.specs.Pure.{positive, negative, opening}
use Rattle.pure_terms.specs.View.{term_view, atom_view}
use Rattle.path_solver.proofs.lists.are_same.Goals as goal

pub returns-in-Holds-right : goal.returns-in-Holds-right
returns-in-Holds-right c = λ h. ap atom_view c.in-Holds.is ∙ ap positive (same_term-same (term_view c.in-Holds.s) (term_view c.in-Holds-right.t) (sym c.eq.ensures ∙ h)) ∙ sym (ap atom_view c.in-Holds-right.is)

pub returns-in-Not-right : goal.returns-in-Not-right
returns-in-Not-right c = λ h. ap atom_view c.in-Not.is ∙ ap negative (same_term-same (term_view c.in-Not.s) (term_view c.in-Not-right.t) (sym c.eq-in-Not-right.ensures ∙ h)) ∙ sym (ap atom_view c.in-Not-right.is)

pub returns-in-Open-right : goal.returns-in-Open-right
returns-in-Open-right c = λ h. ap atom_view c.in-Open.is ∙ ap opening (same_term-same (term_view c.in-Open.s) (term_view c.in-Open-right.t) (sym c.eq-in-Open-right.ensures ∙ h)) ∙ sym (ap atom_view c.in-Open-right.is)
