use Rattle.std.proofs.Common.{sym, ap, ◌∙◌}
use Rattle.pure_terms.specs.View.{term_view, terms_view}
use Rattle.sym_chunks.specs.NameTerms.{listed}
use Rattle.sym_model.specs.Alternatives.{any, same}
use Rattle.sym_chunks.proofs.Elements.{ok_to, of_elements, term_view-List}
use Rattle.sym_chunks.proofs.names.listed.Goals as goal

pub returns-in-List : goal.returns-in-List
returns-in-List c =
    ok_to c.equal_to_one.result _ _ (λ x is.
    is ∙ of_elements (any (same (term_view c.args.p.now))) (terms_view c.in-List.names) _ c.as_slice.ensures
    ∙ ap (listed (term_view c.args.p.now)) (sym (term_view-List c.in-List.names) ∙ ap term_view (sym c.in-List.is))) c.equal_to_one.ensures
