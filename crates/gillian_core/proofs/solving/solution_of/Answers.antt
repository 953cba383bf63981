use Rattle.std.proofs.Common.{sym, ◌∙◌, subst}
use Rattle.pure_terms.specs.Deciding.{IsRight, sat}
use Rattle.pure_terms.specs.View.{atoms_view}
use Rattle.gillian_core.proofs.Solutions.{names_seen, values_seen}
use Rattle.gillian_core.proofs.solving.solution_of.Goals as goal

pub returns-in-Sat : goal.returns-in-Sat
returns-in-Sat g c =
    let bs = c.in_ok-bindings_of-in-Sat.field-0 in
    let solved = rw c.in-Sat.is at c.in_ok-values.ensures in (
      names_seen bs ∙ c.in_ok-bindings_of-in-Sat.ensures.names,
      subst (λ vs. IsRight c.args.text.vars (atoms_view c.args.text.atoms) (sat vs)) (sym (values_seen bs ∙ c.in_ok-bindings_of-in-Sat.ensures.values)) solved,
    )
