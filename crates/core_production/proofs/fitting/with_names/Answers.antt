use Rattle.std.proofs.Common.{sym, ap, ◌∙◌}
use Rattle.core_production.specs.Producing.{are_names}
use Rattle.pure_terms.specs.View.{term_view, terms_view}
use Rattle.sym_chunks.specs.NameTerms.{distinct_from}
use Rattle.sym_chunks.proofs.Elements.{ok_to, of_elements, term_view-List}
use Rattle.sym_model.specs.Alternatives.{alternatives_view}
use Rattle.core_production.proofs.fitting.with_names.Goals as goal

pub returns-in-List : goal.returns-in-List
returns-in-List c =
    ok_to c.distinct_names.result _ _ (λ x is.
    is ∙ of_elements (distinct_from (alternatives_view c.args.first)) (terms_view c.in-List.names) _ c.as_slice.ensures
    ∙ ap (are_names (alternatives_view c.args.first)) (sym (term_view-List c.in-List.names) ∙ ap term_view (sym c.in-List.is))) c.distinct_names.ensures
