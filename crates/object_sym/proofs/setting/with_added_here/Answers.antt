use Rattle.std.proofs.Common.{◌++◌, refl, sym, ap, ◌∙◌}
use Rattle.object_sym.specs.Table.{with_name, added_there}
use Rattle.pure_terms.specs.Pure.{list_of, from_list}
use Rattle.pure_terms.specs.View.{term_view, terms_view}
use Rattle.sym_chunks.specs.Cases.{case_of}
use Rattle.sym_chunks.specs.NameTerms.{unlisted}
use Rattle.sym_chunks.specs.View.{cases_view}
use Rattle.sym_model.specs.Alternatives.{both, same}
use Rattle.sym_model.specs.Pure.{done}
use Rattle.sym_model.specs.View.{frag_view, sub_view}
use Rattle.sym_chunks.proofs.Elements.{ok_to, of_elements, term_view-List}
use Rattle.object_sym.proofs.setting.with_added_here.Goals as goal

pub returns-in-Dom-List : goal.returns-in-Dom-List
returns-in-Dom-List c =
    let l = term_view c.args.l.now in
    let p = term_view c.args.p.now in
    let t = term_view c.args.val.now in
    let cs = frag_view c.args.chunks.now in
    let loc = term_view c.args.chunk.now.loc in
    let subs = ap sub_view (sym c.in-Dom-List.is-0) in
    let vals = sym (term_view-List c.in-Dom-List.names) ∙ ap term_view (sym c.in-Dom-List.is-1) in
    ok_to c.with_added_listed.result _ _ (λ all is.
    is ∙ ap (λ x. cases_view c.args.cases ++ x)
    ((λ i. case_of (both (same l loc) (unlisted p (sym vals i))) (with_name cs c.args.index loc (terms_view c.in-Dom-List.names) p t) (done t))
    ∙ of_elements (λ ds. case_of (both (same l loc) (unlisted p (list_of (from_list (terms_view c.in-Dom-List.names))))) (with_name cs c.args.index loc ds p t) (done t)) (terms_view c.in-Dom-List.names) (terms_view c.in-Dom-List.names) refl
    ∙ (λ i. added_there l p t cs c.args.index loc (subs i) (vals i)))) c.with_added_listed.ensures
