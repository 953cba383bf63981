use Rattle.std.proofs.Common.{◌++◌, sym, ap, ◌∙◌}
use Rattle.object_sym.specs.Places.{lists_not}
use Rattle.object_sym.specs.Table.{undef_term, without_name}
use Rattle.pure_terms.specs.View.{term_view}
use Rattle.sym_chunks.specs.ByPlace.{any_at}
use Rattle.sym_chunks.specs.Cases.{reads, case_of, found}
use Rattle.sym_chunks.specs.View.{cases_view}
use Rattle.sym_model.specs.Pure.{named, done}
use Rattle.sym_model.specs.View.{frag_view}
use Rattle.sym_chunks.proofs.Elements.{ok_to}
use Rattle.sym_chunks.proofs.Choosing.{first_alike, same_alike}
use Rattle.object_sym.proofs.properties.get_cases.Goals as goal

pub returns-then-has_sure_case : goal.returns-then-has_sure_case
returns-then-has_sure_case c =
    let l = term_view c.args.l.now in
    let p = term_view c.args.p.now in
    let cs = frag_view c.args.chunks.now in
    let rest = case_of (any_at l (lists_not p) cs) cs (done undef_term) ++ without_name l p cs in
    first_alike (cases_view c.in_ok-found.found) rest (found reads l (named p) cs ++ rest) (sym c.has_sure_case.ensures ∙ c.if-has_sure_case.true)
    (ap (λ x. x ++ rest) (c.in_ok-found.ensures ∙ (λ i. cases_view (c.new.ensures i) ++ found reads l (c.in_ok-name.ensures i) cs)))

pub returns : goal.returns
returns c =
    let l = term_view c.args.l.now in
    let p = term_view c.args.p.now in
    let cs = frag_view c.args.chunks.now in
    let rest = case_of (any_at l (lists_not p) cs) cs (done undef_term) ++ without_name l p cs in
    ok_to c.without_value.result _ _ (λ all is. same_alike (cases_view all) (found reads l (named p) cs ++ rest) (is ∙ ap (λ x. x ++ rest) (c.in_ok-found.ensures ∙ (λ i. cases_view (c.new.ensures i) ++ found reads l (c.in_ok-name.ensures i) cs)))) c.without_value.ensures
