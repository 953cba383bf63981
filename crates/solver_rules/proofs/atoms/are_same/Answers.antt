use Rattle.std.proofs.Common.{◌≡◌, true, sym, ◌∙◌, subst}
use Rattle.pure_terms.specs.Equality.{same_term}
use Rattle.pure_terms.specs.EqualityLaws.{same_term-same, same_term-refl}
use Rattle.pure_terms.specs.View.{term_view}
use Rattle.solver_rules.proofs.atoms.are_same.Goals as goal

pub returns : goal.returns
returns c = (
  λ h. same_term-same (term_view c.args.s.now) (term_view c.args.t.now) (sym c.eq.ensures ∙ h),
  λ e. c.eq.ensures ∙ subst (λ u. same_term (term_view c.args.s.now) u ≡ true) e (same_term-refl (term_view c.args.s.now)),
)
