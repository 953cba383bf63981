use Rattle.std.proofs.Common.{◌∙◌, sym}
use Rattle.pure_terms.specs.View.{term_view}
use Rattle.pure_terms.proofs.NamingLaws.{names_only-over}
use Rattle.pure_terms.proofs.terms.Term.is_over.Goals as goal

pub returns : goal.returns
returns c =
    let both = names_only-over c.args.vars.now (term_view c.args.self.now) in
    (λ is. both.0 (sym c.term_is_over.ensures ∙ is), λ over. c.term_is_over.ensures ∙ both.1 over)
