use Rattle.std.proofs.Common.{◌++◌, map, sym, ap, ◌∙◌}
use Rattle.std.specs.List.{remove}
use Rattle.pure_terms.specs.View.{term_view, terms_view}
use Rattle.record_sym.specs.Table.{disposed_there}
use Rattle.sym_chunks.specs.View.{cases_view}
use Rattle.sym_chunks.specs.Walking.{way_of, walk}
use Rattle.sym_model.specs.Alternatives.{same}
use Rattle.sym_model.specs.Pure.{named}
use Rattle.sym_model.specs.View.{frag_view, sub_view}
use Rattle.sym_chunks.proofs.Elements.{ok_to, of_elements, term_view-List}
use Rattle.record_sym.proofs.disposing.with_names_here.Goals as goal

pub returns-in-List : goal.returns-in-List
returns-in-List c =
    let l = term_view c.args.l.now in
    let m = term_view c.args.chunk.now.loc in
    let cs = frag_view c.args.chunks.now in
    let subs = ap sub_view (sym c.in-Shape.is) in
    let vals = sym (term_view-List c.in-List.names) ∙ ap term_view (sym c.in-List.is) in
    ok_to c.with_listed_names.result _ _ (λ out is.
    is ∙ ap (λ x. cases_view c.args.cases ++ x)
    (of_elements (λ ds. walk cs m (map named ds) (way_of (same l m) (remove cs c.args.index))) (terms_view c.in-List.names) _ c.as_slice.ensures
    ∙ (λ i. disposed_there l cs c.args.index m (subs i) (vals i)))) c.with_listed_names.ensures
