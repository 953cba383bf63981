use Rattle.std.proofs.Common.{sym, ap, ◌∙◌}
use Rattle.sym_chunks.specs.NameTerms.{unheld_name, unheld}
use Rattle.pure_terms.specs.View.{term_view, terms_view}
use Rattle.sym_chunks.proofs.Elements.{ok_to, of_elements, term_view-List}
use Rattle.sym_model.specs.Alternatives.{any}
use Rattle.sym_model.specs.View.{chunks_view}
use Rattle.sym_chunks.proofs.names.unheld.Goals as goal

pub returns-in-List : goal.returns-in-List
returns-in-List c =
    let p = term_view c.args.p.now in
    let place = term_view c.args.place.now in
    let chunks = chunks_view c.args.chunks.now in
    ok_to c.unheld_in.result _ _ (λ x is.
    is ∙ of_elements (any (unheld_name p place chunks)) (terms_view c.in-List.names) _ c.as_slice.ensures
    ∙ ap (unheld p place chunks) (sym (term_view-List c.in-List.names) ∙ ap term_view (sym c.in-List.is))) c.unheld_in.ensures
