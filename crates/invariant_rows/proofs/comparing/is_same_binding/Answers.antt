use Rattle.std.proofs.Common.{sym, ◌∙◌}
use Rattle.std.proofs.lemmas.Slice.Eq.{bytes_eq-Decides}
use Rattle.pure_terms.specs.EqualityLaws.{same_term-same}
use Rattle.pure_terms.specs.View.{term_view}
use Rattle.invariant_rows.proofs.comparing.is_same_binding.Goals as goal

pub returns-then-eq : goal.returns-then-eq
returns-then-eq c = λ h.
    let name = (bytes_eq-Decides c.args.left.now.name c.args.right.now.name).0 (sym c.eq.ensures ∙ c.if-eq.true) in
    let term = same_term-same (term_view c.args.left.now.term) (term_view c.args.right.now.term) (sym c.eq-then-eq.ensures ∙ h) in
    λ i. record { name = name i; term = term i }
