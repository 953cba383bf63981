use Rattle.std.proofs.Common.{sym, ap, ◌∙◌, map}
use Rattle.pure_terms.specs.View.{term_view, terms_view}
use Rattle.sym_chunks.specs.NameTerms.{unlisted}
use Rattle.sym_model.specs.Alternatives.{all, all_from, other}
use Rattle.sym_chunks.proofs.Elements.{ok_to, of_elements, term_view-List}
use Rattle.sym_chunks.proofs.names.unlisted.Goals as goal

pub returns-in_ok-first-in-List : goal.returns-in_ok-first-in-List
returns-in_ok-first-in-List c =
    ok_to c.equal_to_none.result _ _ (λ x is.
    is ∙ ap (λ first. all_from first (other (term_view c.args.p.now)) (map term_view c.as_slice.result.now)) c.in_ok-first-in-List.ensures
    ∙ of_elements (all (other (term_view c.args.p.now))) (terms_view c.in-List.names) _ c.as_slice.ensures
    ∙ ap (unlisted (term_view c.args.p.now)) (sym (term_view-List c.in-List.names) ∙ ap term_view (sym c.in-List.is))) c.equal_to_none.ensures
